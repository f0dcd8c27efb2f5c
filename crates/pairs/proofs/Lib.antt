pub mod Keys
pub mod Walks
pub mod Trees
pub mod Counts
pub mod Weights
