pub mod Steps
pub mod Serves
