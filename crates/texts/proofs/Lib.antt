pub mod ByCharacters
pub mod Cuts
pub mod Steps
pub mod Data
pub mod Records
pub mod Outcomes
pub mod Printing
pub mod Fractions
pub mod Texts
mod Examples
