pub mod TreeLemmas
pub mod ShapeLemmas
pub mod ItemLemmas
pub mod MapLemmas
pub mod RowLemmas
pub mod SelectorLemmas
pub mod RouteLemmas
pub mod FileLemmas
