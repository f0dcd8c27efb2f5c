pub mod Names
pub mod Entries
pub mod Walks
pub mod Messages
pub mod Notes
