-- Scans that never want memory.
use Rattle.std.proofs.Common.{◌≡◌, ◌++◌, ℕ, List, length, false, Option, Result, Ok, Err}
use Rattle.std.specs.Prelude.{IfOk}
use Rattle.std.specs.List.{concat}
use Rattle.sf_format.specs.declared.directive.Directive.{Directive}
use Rattle.sf_run.specs.outcome.Ending.{Ending}
use Rattle.sf_run.specs.outcome.Ending.TheVariants.{End}
use Rattle.sf_run.specs.Limits.{RunWithin}
use Rattle.sf_run.specs.Stopping.{is_memory_status}
use Rattle.sf_report.specs.Views.{StoredReport}
use Rattle.sf_read.specs.source.Ahead.{Ahead}
use Rattle.sf_read.specs.Made.{Made}
use Rattle.sf_read.specs.Reads.{counted_by}
use Rattle.sf_read.specs.Scan.{MayFollow, Scan, is_fault}
use Rattle.sf_read.proofs.Ended.{told_within}

-- of the bytes that a source shows: the report is that of the run alone
pub shown_within : {S E : Type 0} (ds : List Directive) (m : ℕ) (t : List ℕ) (to_come : S → Option (List ℕ)) (old new : Ahead S)
    (r : Result StoredReport E) → IfOk r (λ s. Scan to_come ds m t old new s.report)
    → IfOk r (λ s. is_memory_status s.report.status ≡ false)
    → IfOk r (λ s. is_fault s.report.met ≡ false → RunWithin ds m t End s.report)
shown_within ds m t to_come old new (Ok s) scan fine = λ f. told_within ds m t End s.report (scan.whole f) fine
shown_within ds m t to_come old new (Err e) scan fine = tt

-- the same of what was held and then of the blocks that the reads gave
pub read_within : {S E : Type 0} (ds : List Directive) (m : ℕ) (to_come : S → Option (List ℕ)) (reads : S → ℕ) (N : ℕ) (old new : Ahead S)
    (r : Result StoredReport E) → IfOk r (λ s. Made to_come reads N ds m old new s.report)
    → IfOk r (λ s. is_memory_status s.report.status ≡ false)
    → IfOk r (λ s. (blocks : List (List ℕ)) × (reads new.source ≡ counted_by (length blocks) (reads old.source))
    × (is_fault s.report.met ≡ false → (z : List ℕ) (ending : Ending) → MayFollow new z ending
    → RunWithin ds m (old.held ++ concat blocks ++ z) ending s.report))
read_within ds m to_come reads N old new (Ok s) made fine = (
  made.reads_are.blocks,
  made.reads_are.count,
  λ f z ending follows. told_within ds m _ ending s.report (made.whole f z ending follows) fine,
)
read_within ds m to_come reads N old new (Err e) made fine = tt
