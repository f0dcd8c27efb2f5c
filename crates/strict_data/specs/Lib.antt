pub mod Counts
pub mod Sizes
pub mod Entries
pub mod Steps
pub mod Filling
pub mod Ids
