pub mod Discovered
pub mod Joined
pub mod Pages
pub mod Scraped
pub mod Targets
pub mod Ticks
