pub mod Ids
pub mod Turns
pub mod Walks
pub mod Trees
pub mod Repeats
