pub mod Answering
pub mod Checking
pub mod Fronts
pub mod LineWords
pub mod Ones
pub mod Results
pub mod Suiting
pub mod Working
