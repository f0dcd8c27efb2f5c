pub mod Fronts
pub mod Texts
pub mod Steps
pub mod Fields
pub mod Unread
pub mod ByCharacters
pub mod Examples
