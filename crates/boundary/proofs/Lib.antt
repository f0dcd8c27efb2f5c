mod Counts
mod Outcomes
mod Sizes
mod Fitting
pub mod Memory
pub mod AfterCall
