pub mod Kept
pub mod Buffers
pub mod Entries
