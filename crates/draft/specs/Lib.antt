pub mod Outcome
pub mod Drafts
