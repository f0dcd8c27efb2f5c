pub mod Services
pub mod Demands
pub mod PCases
