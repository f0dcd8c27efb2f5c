pub mod Tests
pub mod Frame
pub mod Data
pub mod Records
pub mod Strict
pub mod Suited
pub mod AfterReading
pub mod Tallied
