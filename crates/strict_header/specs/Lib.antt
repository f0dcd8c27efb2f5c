pub mod Pieces
pub mod Header
