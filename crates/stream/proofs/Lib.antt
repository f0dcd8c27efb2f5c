pub mod Amounts
pub mod Walks
pub mod Calling
pub mod Cutting
pub mod Numbered
pub mod Keeping
pub mod Examples
