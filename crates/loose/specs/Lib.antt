pub mod Loose
pub mod Judging
