pub mod EntryLemmas
pub mod Moves
