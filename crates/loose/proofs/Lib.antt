pub mod Settings
pub mod Variants
pub mod Judging
pub mod Readings
pub mod Answers
pub mod Determined
pub mod Examples
