pub mod Stands
pub mod Heads
pub mod Zones
pub mod Stamped
pub mod Texts
