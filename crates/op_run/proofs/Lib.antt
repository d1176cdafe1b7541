mod ReportLemmas
mod FolderLemmas
pub mod HeadlineLemmas
mod InputRunLemmas
mod LineRunLemmas
mod LineSaidLemmas
mod LinesRanLemmas
mod NamedRunLemmas
mod RunLemmas
mod WholeRunLemmas
