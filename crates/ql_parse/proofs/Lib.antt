pub mod AggregateLemmas
pub mod AtomLemmas
pub mod CallLemmas
pub mod ClauseLemmas
mod CutLaws
mod CutTexts
pub mod DepthLemmas
mod EscapeLemmas
pub mod FollowLemmas
pub mod ForwardLemmas
pub mod FrontLemmas
mod KeywordLemmas
pub mod LevelLemmas
pub mod ListLemmas
mod ListSteps
mod NodeDepths
mod ParseLemmas
mod PlaceLemmas
pub mod Readers
pub mod SelectorLemmas
pub mod Steps
pub mod TextLemmas
pub mod TreeLaws
mod UnescapeLemmas
mod ValueLemmas
pub mod WithinLemmas
