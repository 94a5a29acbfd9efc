mod StoreLemmas
pub mod Sets
pub mod Lacks
pub mod Bits
pub mod Lanes
pub mod Fronts
pub mod Casts
pub mod TwoDigits
pub mod Blanks
