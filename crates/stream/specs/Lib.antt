pub mod Machine
pub mod Steps
pub mod Feeds
pub mod Numbers
pub mod Cuts
