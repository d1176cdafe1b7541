pub mod Events
pub mod Isolation
pub mod Owners
pub mod ProbeTargets
pub mod Runs
pub mod Tenants
