pub mod Records
pub mod Numbers
pub mod Ranges
pub mod Examples
