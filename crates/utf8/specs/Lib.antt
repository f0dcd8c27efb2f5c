pub mod Rfc3629
pub mod Lead
pub mod Characters
pub mod Onward
