pub mod DollarLemmas
pub mod SpanLemmas
