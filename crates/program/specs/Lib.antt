pub mod Arguments
pub mod Ends
