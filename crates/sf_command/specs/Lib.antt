pub mod jobs
pub mod notes
pub mod reasons
pub mod console
pub mod line_jobs
pub mod entry
