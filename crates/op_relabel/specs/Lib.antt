pub mod Relabelled
pub mod Actions
pub mod Checks
pub mod Steps
