pub mod Served
pub mod Tallied
