pub mod conversions
-- of a pair
pub mod Groups
pub mod Walk
pub mod Formats
pub mod Fits
pub mod Writing
pub mod Laws
pub mod Joined
pub mod Texts
pub mod Doubles
