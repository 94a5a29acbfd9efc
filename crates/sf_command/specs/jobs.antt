pub mod Answers
pub mod Checks
pub mod Commands
pub mod CopyFormats
pub mod Heads
pub mod Jobs
pub mod LinesJobs
pub mod Writings
