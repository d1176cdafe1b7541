mod KindLemmas
mod NameLemmas
mod TagLemmas
