pub mod Walks
pub mod Texts
pub mod Fractions
