pub mod Causes
pub mod Told
pub mod Streams
pub mod Folders
pub mod Lines
pub mod Plans
pub mod Steps
