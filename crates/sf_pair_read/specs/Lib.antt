pub mod rows
pub mod Below
pub mod Reading
