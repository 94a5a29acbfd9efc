-- what a run is
pub use Rattle.sf_report.specs.Steps
pub use Rattle.sf_report.specs.Runs
pub use Rattle.sf_report.specs.Limits
pub use Rattle.sf_report.specs.Machine
pub use Rattle.sf_report.specs.Residual
pub use Rattle.sf_report.specs.Computed
pub use Rattle.sf_report.specs.Views
pub use Rattle.sf_report.specs.Memory
pub use Rattle.sf_report.specs.Rows
pub use Rattle.sf_report.specs.declared.outcome
-- what makes one
pub mod Texts
pub mod Stopping
pub mod Phases
pub mod Pieces
pub mod Tallies
pub mod Places
pub mod Holding
pub mod Standing
pub mod Scanner
pub mod Laws
pub mod Quick
pub mod Counting
pub mod Written
pub mod Wording
