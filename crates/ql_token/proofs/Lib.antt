mod CutLemmas
pub mod DigitLemmas
mod StringLemmas
