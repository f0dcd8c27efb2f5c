pub mod Unescape
pub mod Lookup
pub mod Steps
pub mod Characters
