pub mod Inherited
pub mod NodeLemmas
mod NameLemmas
mod Rows
mod ShapeLemmas
pub mod TokenLemmas
pub mod TypeLemmas
pub mod VerdictLemmas
