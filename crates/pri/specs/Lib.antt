pub mod Pri
