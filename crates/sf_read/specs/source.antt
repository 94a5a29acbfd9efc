pub mod Ahead
pub mod Counts
pub mod Scripts
