pub mod White
pub mod Trim
pub mod Before
pub mod Characters
