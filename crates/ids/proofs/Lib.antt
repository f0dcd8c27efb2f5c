pub mod Few
pub mod Many
