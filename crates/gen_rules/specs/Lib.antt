pub mod Base
pub mod RuleFiles
