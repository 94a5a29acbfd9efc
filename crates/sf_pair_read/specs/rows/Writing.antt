-- What the writing of rows by a pair does.
use Rattle.std.specs.Prelude.{◌≡◌, ◌≤◌, ◌<◌, ◌+◌, ◌++◌, ◌↔◌, ℕ, List, ◌∷◌, length, map, Option, Err, if◌then◌else◌}
use Rattle.std.specs.List.{AllByRecursion}
use Rattle.std.specs.Io.KnownBytes.{Appends}
use Rattle.sf_base.specs.Data.{Datum}
use Rattle.sf_format.specs.declared.directive.Directive.{Directive}
use Rattle.sf_format.specs.declared.unit.Unit.{Unit as PrintUnit}
use Rattle.sf_print.specs.declared.fault.PrintFault.TheVariants.{TooLong}
use Rattle.sf_print.specs.Printed.{printed}
use Rattle.sf_print.specs.sink.Sinks.{counted_on}
use Rattle.sf_pair.specs.declared.fault.WriteFault.{WriteFault}
use Rattle.sf_pair.specs.declared.fault.WriteFault.TheVariants as fault
use Rattle.sf_pair.specs.Fits.{Fit}
use Rattle.sf_pair.specs.Joined.{joined}
use Rattle.sf_pair.specs.Writing.{WritesWhole, is_sink_failure}
use Rattle.sf_pair_read.specs.declared.rows.fault.WriteRowsFault.{WriteRowsFault}

-- the pair has refused to write these values: what the sink held before and after, and how often it had failed
pub record RefusesRow (us : List PrintUnit) (ds : List Directive) (values : List Datum) (before after : Option (List ℕ))
    (failures failures' : ℕ) (why : WriteFault) : Type 0 where
  pub unfit : (why ≡ fault.NotFitting) ↔ (Fit us ds values → ⊥)
  pub nothing : why ≡ fault.NotFitting → after ≡ before
  pub long : Fit us ds values → 2147483647 < length (printed us values) → (why ≡ fault.Print TooLong) × (after ≡ before)
  pub part : Fit us ds values → length (printed us values) ≤ 2147483647 → WritesWhole before after (printed us values) (Err why)
  pub failed : failures' ≡ (if is_sink_failure (Err why) then counted_on failures else failures)

-- the rows before this one are written, and it was refused
pub record StopsAtRow {K T : Type 0} (us : List PrintUnit) (ds : List Directive) (contents : K → Option (List ℕ)) (failures : K → ℕ)
    (listed : T → List Datum) (rows : List T) (old new : K) (refused : WriteRowsFault) : Type 0 where
  pub before : List T
  pub row : T
  pub after : List T
  pub rows_are : rows ≡ before ++ row ∷ after
  pub number : refused.row ≡ length before + 1
  pub fit : AllByRecursion (Fit us ds) (map listed before)
  pub mid : K
  pub written : Appends (contents old) (contents mid) (joined us (map listed before))
  pub sound : failures mid ≡ failures old
  pub refusal : RefusesRow us ds (listed row) (contents mid) (contents new) (failures mid) (failures new) refused.why
