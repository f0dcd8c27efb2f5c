pub mod Dates
pub mod Years
pub mod Spans
pub mod Days
pub mod Walks
pub mod Clocks
pub mod Instants
pub mod ThereAndBack
mod Examples
