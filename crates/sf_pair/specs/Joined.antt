-- Joined printed texts.
use Rattle.std.specs.Prelude.{◌≡◌, ℕ, List, [], ◌∷◌, ◌++◌, drop, map}
use Rattle.std.specs.List.{AllByRecursion, flat_map}
use Rattle.sf_base.specs.Data.{Datum}
use Rattle.sf_format.specs.declared.directive.Directive.{Directive}
use Rattle.sf_format.specs.declared.unit.Unit.{Unit as PrintUnit}
use Rattle.sf_format.specs.Proper.{IsAccepted}
use Rattle.sf_format.specs.Units.{AreAccepted}
use Rattle.sf_print.specs.Printed.{printed}
use Rattle.sf_report.specs.declared.outcome.Ending.{Ending}
use Rattle.sf_report.specs.Runs.{Run, RunReport}
use Rattle.sf_pair.specs.Fits.{Fit}
use Rattle.sf_pair.specs.Groups.{IsAligned}
use Rattle.sf_pair.specs.Laws.{SlotsAgree, read_back}

-- the texts of these rows, joined
abbrev pub joined : List PrintUnit → List (List Datum) → List ℕ
joined us rows = flat_map (printed us) rows

-- the runs of one input with these reports, each run of what the run before it left
abbrev pub RunsInTurn : List Directive → List ℕ → Ending → List RunReport → List ℕ → Type 0
RunsInTurn ds x ending [] left = x ≡ left
RunsInTurn ds x ending (report ∷ reports) left = Run ds x ending report × RunsInTurn ds (drop report.used x) ending reports left

-- one after the other, the runs give the rows back and use just their texts, slot by slot; what follows is left
pub record ReadsRowsBack (us : List PrintUnit) (ds : List Directive) (rows : List (List Datum)) (z : List ℕ)
    (ending : Ending) : Type 0 where
  pub runs : RunsInTurn ds (joined us rows ++ z) ending (map (read_back us ds) rows) z
  pub values : AllByRecursion (SlotsAgree us ds) rows

-- the runs of joined printed texts of rows that fit, whatever follows them and however that ends, give the rows back
abbrev pub JoinedRoundTrip : Type 0
JoinedRoundTrip = (us : List PrintUnit) (ds : List Directive) → AreAccepted us → IsAccepted ds → IsAligned us ds
    → (rows : List (List Datum)) → AllByRecursion (Fit us ds) rows → (z : List ℕ) (ending : Ending) → ReadsRowsBack us ds rows z ending
