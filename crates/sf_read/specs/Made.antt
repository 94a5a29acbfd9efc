-- What a scan makes of what a reader lays down, whatever its source says of itself (C11 7.21.6.2p4, p9, p16).
use Rattle.std.specs.Prelude.{◌≡◌, ◌++◌, ◌⊎◌, ℕ, List, [], length, true, false, Option}
use Rattle.std.specs.List.{concat}
use Rattle.sf_format.specs.declared.directive.Directive.{Directive}
use Rattle.sf_run.specs.outcome.Ending.{Ending}
use Rattle.sf_run.specs.outcome.Ending.TheVariants.{Fault}
use Rattle.sf_run.specs.Runs.{RunReport}
use Rattle.sf_run.specs.Limits.{RunWithin, RunTold}
use Rattle.sf_read.specs.source.Ahead.{Ahead}
use Rattle.sf_read.specs.Reads.{EndsInNothing, ReadsWhile, Waits}
use Rattle.sf_read.specs.Scan.{MayFollow, is_fault}

-- A scan of the bytes that were held, and then of the blocks that its reads gave: its report, and what is held of them now. old and new
-- are the lookahead before and after it.
pub record Made {S : Type 0} (to_come : S → Option (List ℕ)) (reads : S → ℕ) (N : ℕ) (ds : List Directive) (m : ℕ) (old new : Ahead S)
    (report : RunReport) : Type 0 where
  -- the bytes that were used
  pub bytes : List ℕ
  pub used : report.used ≡ length bytes
  -- these and what is held now are what was held, and then the blocks; each read was waited for
  pub reads_are : ReadsWhile to_come reads N (Waits ds m) old bytes new
  -- the source did not fail: the report of what was held and then the blocks, however the input goes on
  pub whole : is_fault report.met ≡ false → (z : List ℕ) (ending : Ending) → MayFollow new z ending
      → RunTold ds m (old.held ++ concat reads_are.blocks ++ z) ending report
  -- it failed: the report of these alone, with the fault; all of them were used, and the source may give more
  pub cut : is_fault report.met ≡ true → RunWithin ds m (old.held ++ concat reads_are.blocks) Fault report
  pub nothing_held : is_fault report.met ≡ true → (new.held ≡ []) × (new.at_end ≡ false)
  -- a read gave nothing exactly where it failed, or has told the end
  pub failed : is_fault report.met ≡ true → EndsInNothing reads_are.blocks
  pub told_end : old.at_end ≡ false → new.at_end ≡ true → EndsInNothing reads_are.blocks
  pub gave_nothing : EndsInNothing reads_are.blocks → (is_fault report.met ≡ true) ⊎ (new.at_end ≡ true)
  -- an end that was told stays so
  pub stays : old.at_end ≡ true → new.at_end ≡ true
