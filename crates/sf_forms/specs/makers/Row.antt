-- The values of a record.
use Rattle.std.specs.Prelude.{ℕ, List, length}
use Rattle.std.specs.List.{filter_map}
use Rattle.sf_base.specs.Data.{Assigned, Datum, datum_at}
use Rattle.sf_format.specs.declared.directive.Directive.{Directive}
use Rattle.sf_format.specs.Proper.{destinations_of}
use Rattle.sf_format.specs.Slots.{slots_from}
use Rattle.sf_report.specs.Runs.{RunReport}

-- what the slots from 1 to n were given, where they were
abbrev pub row_of : ℕ → List Assigned → List Datum
row_of n values = filter_map (λ slot. datum_at slot values) (slots_from 1 n)

-- the values of a record, slot by slot
abbrev pub row_in : List Directive → RunReport → List Datum
row_in ds r = row_of (length (destinations_of ds)) r.values
