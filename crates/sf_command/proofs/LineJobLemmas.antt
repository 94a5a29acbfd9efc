pub mod Copying
pub mod Lining
