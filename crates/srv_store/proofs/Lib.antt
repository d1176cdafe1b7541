pub mod GrowthLemmas
pub mod OrderLemmas
mod PlaceLemmas
mod KeptLemmas
mod FlatLemmas
mod NewestLemmas
mod WindowLemmas
mod MatchLemmas
mod LatestLemmas
mod SelectedLemmas
mod TwinLemmas
mod GreatestLemmas
mod RangedLemmas
mod IndexLemmas
mod CandidateLemmas
pub mod RisingLemmas
pub mod RisingEntries
