pub mod Walks
pub mod Ids
