pub mod Expressions
pub mod RuleTables
pub mod PrometheusRules
pub mod AlertmanagerConfigs
pub mod RuleObjects
