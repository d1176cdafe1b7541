pub mod KnownLemmas
mod LineLemmas
mod PrefixLemmas
mod ShareLemmas
