mod BestLemmas
mod ClashLemmas
mod FoundLemmas
pub mod GroupLemmas
mod JoinLemmas
mod KeptLemmas
pub mod LabelValueLemmas
mod LeastClashLemmas
mod LoopLemmas
mod NeighbourLemmas
mod NumberLemmas
pub mod OrderedLemmas
mod PlacedLemmas
mod RateLemmas
mod SharingLemmas
mod StampLemmas
mod WalkLemmas
