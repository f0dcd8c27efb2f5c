pub mod Month
pub mod Clock
pub mod Rfc3339
pub mod Timestamp
