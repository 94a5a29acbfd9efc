pub mod Faults
pub mod Full
pub mod Naming
pub mod Recorded
pub mod RowSlots
pub mod Widening
