pub mod Refusals
pub mod Calls
pub mod Services
pub mod Determined
mod Examples
