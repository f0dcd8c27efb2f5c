pub mod Answers
pub mod Lines
pub mod Alike
pub mod Calls
pub mod Examples
