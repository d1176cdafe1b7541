pub mod Memories
pub mod Served
pub mod Shares
pub mod Sharing
pub mod Ticking
