pub mod FieldLemmas
pub mod BreachLemmas
pub mod PutLemmas
