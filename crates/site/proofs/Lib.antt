pub mod Hosts
pub mod Answers
pub mod Calls
pub mod Reading
pub mod Examples
