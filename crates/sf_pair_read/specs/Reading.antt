-- What a scan of an input that begins with a printed text gives.
use Rattle.std.specs.Prelude.{ℕ, ◌≡◌, ◌≤◌, ◌<◌, ◌⊎◌, false, List, length, Option, Some}
use Rattle.sf_base.specs.Data.{Datum}
use Rattle.sf_format.specs.declared.directive.Directive.{Directive}
use Rattle.sf_format.specs.declared.unit.Unit.{Unit as PrintUnit}
use Rattle.sf_print.specs.Printed.{printed}
use Rattle.sf_run.specs.Rows.{AreRowOf}
use Rattle.sf_run.specs.Runs.{RunReport}
use Rattle.sf_read.specs.source.Ahead.{Ahead, input_of}
use Rattle.sf_read.specs.Reads.{ReadsWhile}
use Rattle.sf_read.specs.Scan.{is_fault}
use Rattle.sf_pair.specs.Laws.{read_back}

-- each read was asked for before the text was whole, once all that was held and read before had been used
abbrev pub NotReadAfter : {S : Type 0} → (S → Option (List ℕ)) → (S → ℕ) → ℕ → List ℕ → Ahead S → Ahead S → Type 0
NotReadAfter to_come reads N text old new = ReadsWhile to_come reads N (λ x. length x < length text) old text new

-- the report gives the values back and used just the text, what follows the text is left, and no read came after it
pub record GivesBack {S : Type 0} (to_come : S → Option (List ℕ)) (reads : S → ℕ) (N : ℕ) (us : List PrintUnit) (ds : List Directive)
    (values : List Datum) (z : List ℕ) (old new : Ahead S) (report : RunReport) : Type 0 where
  pub report_is : report ≡ read_back us ds values
  pub row : AreRowOf (length values) values report.values
  pub left : input_of to_come new ≡ Some z
  pub read : NotReadAfter to_come reads N (printed us values) old new

-- where the source didn't fail within the text
abbrev pub ReadsBackWhole : {S : Type 0} → (S → Option (List ℕ)) → (S → ℕ) → ℕ → List PrintUnit → List Directive → List Datum → List ℕ
    → Ahead S → Ahead S → RunReport → Type 0
ReadsBackWhole to_come reads N us ds values z old new report =
    (is_fault report.met ≡ false) ⊎ (length (printed us values) ≤ report.used) → GivesBack to_come reads N us ds values z old new report
