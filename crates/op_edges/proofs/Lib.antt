pub mod CountLemmas
pub mod ToldLemmas
pub mod StreamLemmas
pub mod LineLemmas
