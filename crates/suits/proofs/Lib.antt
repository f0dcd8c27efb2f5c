pub mod Rows
pub mod Tests
pub mod Suited
pub mod Examples
