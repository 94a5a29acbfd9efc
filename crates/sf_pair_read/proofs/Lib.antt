mod RowLemmas
pub mod Scans
