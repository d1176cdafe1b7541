pub mod ExportLemmas
pub mod ListLemmas
