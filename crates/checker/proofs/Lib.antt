pub mod Lefts
pub mod Walking
pub mod Memories
pub mod Examples
