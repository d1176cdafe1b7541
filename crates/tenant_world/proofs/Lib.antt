pub mod EventLaws
mod EnforcedFiles
mod KeyLemmas
mod LineLaws
mod MemoryLaws
mod NameLemmas
mod ObjectLaws
mod OrderLaws
mod RecordingLaws
mod ResultLaws
mod RoundLaws
mod RulesLaws
mod RunLaws
mod ScrapeLaws
mod StoreLaws
mod TickLaws
