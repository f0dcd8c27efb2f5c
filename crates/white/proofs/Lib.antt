pub mod Points
pub mod Whites
pub mod Bytes
pub mod Walks
pub mod Blanks
pub mod Trims
pub mod ByCharacters
pub mod Examples
