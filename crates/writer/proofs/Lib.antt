pub mod Starts
pub mod Covered
pub mod Lefts
pub mod Lines
pub mod Walks
pub mod Putting
