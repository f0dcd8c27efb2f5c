pub mod Decimals
pub mod Choices
pub mod Numbers
pub mod Fixed
pub mod Fractions
pub mod Examples
