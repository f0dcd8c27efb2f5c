pub mod Names
pub mod Rfc3164
pub mod Steps
pub mod TagAlone
pub mod Hyphen
pub mod Characters
