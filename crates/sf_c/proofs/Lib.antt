pub mod Cells
pub mod Data
pub mod Runs
pub mod Taking
