pub mod Record
pub mod File
pub mod Writes
pub mod Numbers
pub mod Laws
pub mod Steps
