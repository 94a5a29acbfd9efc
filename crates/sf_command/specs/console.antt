pub mod Ends
pub mod Fronts
pub mod Hands
pub mod Saying
