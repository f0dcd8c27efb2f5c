pub mod Tally
pub mod Numbers
pub mod Counts
