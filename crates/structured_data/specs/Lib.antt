pub mod Param
pub mod Element
pub mod Data
pub mod Tables
pub mod Steps
pub mod Characters
