pub mod Layout
pub mod Incoming
