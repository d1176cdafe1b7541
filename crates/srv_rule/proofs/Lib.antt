pub mod RunLemmas
mod StaleLemmas
