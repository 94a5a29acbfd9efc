-- Records of which no value is missing.
use Rattle.std.proofs.Common.{◌≡◌, ℕ, List, map, Option, Some, Result, sym, subst}
use Rattle.std.specs.Prelude.{is_ok}
use Rattle.sf_base.specs.Data.{Datum}
use Rattle.sf_format.specs.declared.unit.Unit.{Unit as PrintUnit}
use Rattle.sf_print.specs.declared.fault.PrintFault.{PrintFault}
use Rattle.sf_print.specs.Given.{given_measured, given_printed}
use Rattle.sf_print.specs.Printed.{measured, printed}
use Rattle.sf_print.proofs.NothingMissing.{measured_some, printed_some}
use Rattle.sf_forms.specs.declared.makers.maker.Unwritten.{Unwritten}
use Rattle.sf_forms.specs.makers.Works.{Writes}

-- what is written of the values is what is due
pub full_written : (units : List PrintUnit) (values : List Datum) (given : List (Option Datum)) → map Some values ≡ given
    → (old new : Option (List ℕ)) (r : Result (Unit {0}) Unwritten)
    → Writes (is_ok (measured units values)) (printed units values) old new r
    → Writes (is_ok (given_measured units given)) (given_printed units given) old new r
full_written units values given is old new r h =
    subst (λ (g : List (Option Datum)). Writes (is_ok (given_measured units g)) (given_printed units g) old new r) is
    (subst (λ (m : Result ℕ PrintFault). Writes (is_ok m) (given_printed units (map Some values)) old new r)
    (sym (measured_some units values))
    (subst (λ (t : List ℕ). Writes (is_ok (measured units values)) t old new r) (sym (printed_some units values)) h))
