pub mod Calls
pub mod Sums
pub mod Numbered
pub mod Examples
