pub mod Values
pub mod Items
pub mod Used
pub mod Each
pub mod Noted
pub mod Shut
pub mod Messages
