pub mod DoneRuns
pub mod Faults
pub mod PairRuns
pub mod Carrying
pub mod Answered
pub mod Spelling
pub mod Computing
pub mod Rooms
