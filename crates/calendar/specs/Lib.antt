pub mod Calendar
pub mod Instant
pub mod Order
