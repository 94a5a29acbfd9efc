pub mod Computed
pub mod Formats
pub mod Forms
pub mod Hexadecimals
pub mod Laws
pub mod Values
