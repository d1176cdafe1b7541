mod CaptureLemmas
pub mod EntryLemmas
pub mod MapLemmas
mod PatternLemmas
mod SpanLemmas
pub mod SpanReadLemmas
mod TableLemmas
mod TemplateLemmas
