pub mod Parsers
pub mod Steps
pub mod Passed
pub mod Unread
pub mod Characters
