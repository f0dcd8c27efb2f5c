pub mod Pieces
pub mod Notes
pub mod Elements
pub mod Odd
pub mod Data
