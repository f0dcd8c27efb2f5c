pub mod Scans
pub mod Readings
