-- The words for the numbers of statuses and faults.
use Rattle.std.specs.Prelude.{ℕ, List, [], Option, Some, None, slice_get}
use Rattle.sf_run.specs.Wording.{status_text}
use Rattle.sf_run.specs.outcome.Status.{Status}
use Rattle.sf_c.specs.Numbers.{statuses}

abbrev pub words_or_none : Option Status → List ℕ
words_or_none None = []
words_or_none (Some status) = status_text status

-- the words for the status with this number; none where there is none
abbrev pub words_for : ℕ → List ℕ
words_for number = words_or_none (slice_get statuses number)
