mod AbsentByNameLemmas
mod AbsentLemmas
pub mod EnforcedLaws
mod FailureLemmas
mod MatcherLemmas
mod OrderedLemmas
mod SelectorLemmas
