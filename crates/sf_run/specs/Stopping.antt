-- Whether a run was stopped for want of memory.
use Rattle.std.specs.Prelude.{Bool, true, false, Option, Some, None}
use Rattle.sf_report.specs.declared.outcome.Status.{Status}
use Rattle.sf_report.specs.declared.outcome.Status.TheVariants.{NoMemory}
use Rattle.sf_run.specs.declared.scanner.Stop.{Stop}

-- memory for a text was refused
abbrev pub is_memory_status : Status → Bool
is_memory_status NoMemory = true
is_memory_status _ = false

abbrev pub is_no_memory : Option Stop → Bool
is_no_memory None = false
is_no_memory (Some stop) = is_memory_status stop.status
