pub mod LabelMaps
pub mod Stores
pub mod StoreLaws
pub mod Runs
pub mod Indexes
