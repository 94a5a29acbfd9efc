pub mod Around
pub mod Plainness
pub mod Fields
pub mod Reals
pub mod Blanks
pub mod Joined
pub mod Short
