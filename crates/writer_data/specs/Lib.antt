pub mod Sizes
pub mod Walks
