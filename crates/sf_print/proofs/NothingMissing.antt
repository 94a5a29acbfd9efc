-- Where no value is missing, what is printed is what is printed of the values.
use Rattle.std.proofs.Common.{◌≡◌, ℕ, ◌-◌, Bool, true, false, cond, not, ◌==◌, List, [], ◌∷◌, ◌++◌, length, fold, map, refl, ap, ◌∙◌}
use Rattle.std.proofs.Common.{Option, Some, None, Result, Err}
use Rattle.std.proofs.lemmas.List.{length-map}
use Rattle.std.proofs.lemmas.Option.{slice_get-map}
use Rattle.std.specs.Option.{option_map}
use Rattle.std.specs.Prelude.{slice_get}
use Rattle.sf_base.specs.Data.{Datum}
use Rattle.sf_format.specs.declared.unit.Unit.{Unit as PrintUnit}
use Rattle.sf_format.specs.declared.unit.Unit.TheVariants as unit
use Rattle.sf_format.specs.Units.{values_of}
use Rattle.sf_print.specs.declared.fault.PrintFault.{PrintFault}
use Rattle.sf_print.specs.declared.fault.PrintFault.TheVariants as fault
use Rattle.sf_print.specs.Given.{fault_of_given, given_at, given_fault, given_measured, given_or_none, given_printed, given_unit}
use Rattle.sf_print.specs.Given.{lowest_given_fault}
use Rattle.sf_print.specs.Printed.{fault_or_none, length_or_fault, lower, lowest_fault, measured, printed, text_or_none, unit_fault}
use Rattle.sf_print.specs.Printed.{unit_text, value_at}

at_some : (values : List Datum) (slot : ℕ) → given_at (map Some values) slot ≡ option_map Some (value_at values slot)
at_some values slot = by (slot == 0)
  where
    by : (t : Bool) → cond t None (slice_get (map Some values) (slot - 1)) ≡ option_map Some (cond t None (slice_get values (slot - 1)))
    by true = refl
    by false = slice_get-map Some values (slot - 1)

unit_some : (values : List Datum) (u : PrintUnit) → given_unit (map Some values) u ≡ unit_text values u
unit_some values (unit.Byte b) = refl
unit_some values (unit.Conv c) = ap (given_or_none c) (at_some values c.slot) ∙ by (value_at values c.slot)
  where
    by : (found : Option Datum) → given_or_none c (option_map Some found) ≡ text_or_none c found
    by None = refl
    by (Some value) = refl

pub printed_some : (units : List PrintUnit) (values : List Datum) → given_printed units (map Some values) ≡ printed units values
printed_some [] values = refl
printed_some (u ∷ units) values =
    ap (λ (t : List ℕ). t ++ given_printed units (map Some values)) (unit_some values u)
    ∙ ap (λ (t : List ℕ). unit_text values u ++ t) (printed_some units values)

fault_some : (values : List Datum) (u : PrintUnit) → given_fault (map Some values) u ≡ unit_fault values u
fault_some values (unit.Byte b) = refl
fault_some values (unit.Conv c) = ap (fault_of_given c) (at_some values c.slot) ∙ by (value_at values c.slot)
  where
    by : (found : Option Datum) → fault_of_given c (option_map Some found) ≡ fault_or_none c found
    by None = refl
    by (Some value) = refl

faults_some : (values : List Datum) (units : List PrintUnit) (f : Option PrintFault)
    → fold (λ g u. lower g (given_fault (map Some values) u)) f units ≡ fold (λ g u. lower g (unit_fault values u)) f units
faults_some values [] f = refl
faults_some values (u ∷ units) f =
    ap (λ (g : Option PrintFault). fold (λ h v. lower h (given_fault (map Some values) v)) (lower f g) units) (fault_some values u)
    ∙ faults_some values units (lower f (unit_fault values u))

pub measured_some : (units : List PrintUnit) (values : List Datum) → given_measured units (map Some values) ≡ measured units values
measured_some units values =
    ap (λ (n : ℕ). measure n (lowest_given_fault units (map Some values)) (given_printed units (map Some values))) (length-map values Some)
    ∙ ap (λ (f : Option PrintFault). measure (length values) f (given_printed units (map Some values))) (faults_some values units None)
    ∙ ap (λ (t : List ℕ). measure (length values) (lowest_fault units values) t) (printed_some units values)
  where
    measure : ℕ → Option PrintFault → List ℕ → Result ℕ PrintFault
    measure n f text = cond (not (n == length (values_of units))) (Err fault.WrongCount) (length_or_fault f (length text))
