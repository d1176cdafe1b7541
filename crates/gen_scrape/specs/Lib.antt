pub mod Dollars
pub mod InForce
pub mod ProbeJobs
