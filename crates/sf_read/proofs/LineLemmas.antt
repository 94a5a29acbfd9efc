pub mod Cutting
pub mod Gathering
pub mod Held
pub mod Lined
pub mod Using
