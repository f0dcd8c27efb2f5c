pub mod Fields
pub mod Written
pub mod Says
pub mod Told
pub mod Fits
pub mod Writes
pub mod Laws
