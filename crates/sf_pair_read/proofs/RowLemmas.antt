pub mod Back
pub mod Turns
pub mod Written
