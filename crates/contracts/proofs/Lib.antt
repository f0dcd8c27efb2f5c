pub mod PCases
pub mod Determined
pub mod Numbers
pub mod Demands
pub mod Rest
