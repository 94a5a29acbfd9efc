pub mod item
pub mod value
