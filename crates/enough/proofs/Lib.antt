pub mod Stamps
pub mod Heads
pub mod Names
pub mod Lines
pub mod Strict
pub mod Enough
pub mod Called
pub mod Examples
