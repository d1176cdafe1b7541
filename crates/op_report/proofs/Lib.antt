pub mod CleanLemmas
pub mod FieldLemmas
pub mod LineLemmas
pub mod ReadBackLemmas
