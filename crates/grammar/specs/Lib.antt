pub mod Abnf
pub mod Line
pub mod Reading
pub mod Parse
