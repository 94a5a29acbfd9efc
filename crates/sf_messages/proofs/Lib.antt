mod PlaceLemmas
pub mod Lines
