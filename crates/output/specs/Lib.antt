pub mod Output
pub mod Fits
pub mod Numerals
