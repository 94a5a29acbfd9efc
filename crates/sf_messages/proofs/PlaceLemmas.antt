pub mod Keeping
pub mod Splitting
pub mod Stepping
