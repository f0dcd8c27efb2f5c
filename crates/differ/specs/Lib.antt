pub mod Seen
pub mod Differences
pub mod Steps
