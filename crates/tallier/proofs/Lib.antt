pub mod Texts
pub mod Counted
pub mod Examples
