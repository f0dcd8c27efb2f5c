pub mod Site
pub mod Numbers
pub mod Laws
pub mod Steps
