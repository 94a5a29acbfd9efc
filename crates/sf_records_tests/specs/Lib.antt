pub mod Silence
pub mod by_lines
