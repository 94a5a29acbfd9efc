-- The texts for how a run ended, and for why none was started.
use Rattle.std.specs.Prelude.{ℕ, List, codes}
pub use Rattle.sf_report.specs.Wording.{status_text, outcome_text}
use Rattle.sf_run.specs.declared.feeding.StartFault.{StartFault}
use Rattle.sf_run.specs.declared.feeding.StartFault.TheVariants as fault

abbrev pub start_fault_text : StartFault → List ℕ
start_fault_text fault.NoMemory = codes "out of memory"
start_fault_text fault.BadLimit = codes "limit above 2147483647"
start_fault_text fault.Unbounded = codes "the format has no width sum"
start_fault_text fault.TooSmall = codes "the store is too small"
