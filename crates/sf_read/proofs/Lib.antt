mod SourceLemmas
mod FieldLemmas
pub mod LineLemmas
-- of scans
pub mod AtOnce
pub mod Blocks
pub mod Consuming
pub mod Ended
pub mod Endings
pub mod EndsMoved
pub mod Holding
pub mod InTurn
pub mod InPieces
pub mod Lines
pub mod Reading
pub mod Shapes
pub mod Unbounded
