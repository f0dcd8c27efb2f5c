pub mod Viable
pub mod Laws
pub mod Far
pub mod Leaves
pub mod Ids
pub mod Reach
pub mod Walks
