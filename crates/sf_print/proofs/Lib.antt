pub mod DigitLemmas
mod TextLemmas
mod BlockLemmas
-- of printing
pub mod Appending
pub mod NothingMissing
pub mod Rows
pub mod Short
pub mod Staging
pub mod InPlace
pub mod Judged
pub mod Lowest
