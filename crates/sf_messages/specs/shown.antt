pub mod Cures
pub mod Shown
