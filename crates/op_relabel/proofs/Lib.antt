pub mod CheckLemmas
pub mod LabelLemmas
pub mod MapLemmas
pub mod RelabelLemmas
