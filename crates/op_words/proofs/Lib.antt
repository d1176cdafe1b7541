pub mod RowLemmas
pub mod Rules
pub mod PartLemmas
pub mod Views
pub mod Said
pub mod Turns
pub mod Exact
pub mod Whole
