pub mod Message
pub mod Prints
pub mod Opens
pub mod Rooms
