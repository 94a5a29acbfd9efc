pub mod Exits
pub mod Files
pub mod Hints
pub mod Laws
pub mod Programs
pub mod Rooms
