pub mod Limits
pub mod Places
pub mod Params
pub mod Refusals
pub mod Records
pub mod Answers
