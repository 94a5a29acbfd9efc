pub mod Conflicts
pub mod Hyphens
pub mod Laws
pub mod Line
pub mod Misuses
pub mod Options
pub mod Orders
pub mod Taken
