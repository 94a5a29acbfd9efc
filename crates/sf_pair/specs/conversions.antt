pub mod Below
pub mod Reals
pub mod Neighbours
pub mod Widths
