pub mod Scripts
pub mod Sinks
