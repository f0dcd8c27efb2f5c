pub mod Followers
pub mod AfterCall
