pub mod Keys
pub mod Notes
pub mod Odd
