pub mod Objects
pub mod Selected
pub mod SecretNames
pub mod EnforcedLabels
