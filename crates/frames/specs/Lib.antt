pub mod Tasks
pub mod States
pub mod Words
