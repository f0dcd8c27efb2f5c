pub mod Text
pub mod Frames
