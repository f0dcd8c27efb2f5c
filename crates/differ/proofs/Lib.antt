pub mod Examples
pub mod Eights
pub mod Fields
pub mod Ids
pub mod Parts
pub mod Links
pub mod Whole
