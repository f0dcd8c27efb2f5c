pub mod Texts
pub mod Rooms
pub mod Walks
pub mod Lengths
pub mod Answers
pub mod Turns
pub mod Laws
mod Examples
