pub mod Readers
pub mod Examples
