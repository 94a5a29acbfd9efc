pub mod CopyLemmas
pub mod LinesLemmas
pub mod NamedLemmas
pub mod ShownLemmas
pub mod WrittenLemmas
