pub mod Compare
pub mod Steps
pub mod Numbers
pub mod Laws
