pub mod Pairs
pub mod Unescaping
pub mod Finding
pub mod ByCharacters
pub mod Answers
mod Examples
