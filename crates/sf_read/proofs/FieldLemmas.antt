pub mod FloatFields
pub mod Pushed
