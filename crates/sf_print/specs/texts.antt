pub mod Floats
pub mod Text
pub mod Plain
pub mod Printables
pub mod Runs
pub mod Visible
