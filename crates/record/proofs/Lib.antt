pub mod Examples
pub mod Params
