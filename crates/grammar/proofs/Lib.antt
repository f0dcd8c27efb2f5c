pub mod Readers
pub mod Bytes
pub mod Header
pub mod Data
pub mod Lines
pub mod Readings
pub mod Examples
