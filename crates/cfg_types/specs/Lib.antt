pub mod Jobs
pub mod Steps
pub mod Texts
pub mod Written
