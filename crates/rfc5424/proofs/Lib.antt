pub mod Headers
pub mod Lines
pub mod Examples
