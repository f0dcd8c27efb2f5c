pub mod Claims
pub mod Laws
pub mod Texts
pub mod Holds
