-- The texts for how a run ended.
use Rattle.std.specs.Prelude.{ℕ, List, ◌++◌, codes}
use Rattle.std.specs.Fmt.{decimal}
use Rattle.sf_report.specs.declared.outcome.Outcome.{Outcome}
use Rattle.sf_report.specs.declared.outcome.Status.{Status}
use Rattle.sf_report.specs.declared.outcome.Status.TheVariants as run

-- the words for a status
abbrev pub status_text : Status → List ℕ
status_text run.Done = codes "done"
status_text run.InputFailure = codes "input failure"
status_text run.MatchingFailure = codes "matching failure"
status_text run.OutOfRange = codes "out of range"
status_text run.TooLong = codes "too long"
status_text run.NoMemory = codes "out of memory"

-- what a run came to: the status, the directive, the bytes and the items, in decimal digits
abbrev pub outcome_text : Outcome → List ℕ
outcome_text outcome =
    status_text outcome.status ++ (codes " at " ++ (decimal outcome.at ++ (codes ", used " ++ (decimal outcome.used
    ++ (codes ", assigned " ++ decimal outcome.assigned)))))
