pub mod Escapes
pub mod Examples
