pub mod Writes
pub mod Numerals
pub mod Pieces
mod Examples
