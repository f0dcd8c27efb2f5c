pub mod Enough
pub mod Called
