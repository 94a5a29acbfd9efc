-- What is printed of a record in place, value by value, is what is printed of its row.
use Rattle.std.proofs.Common.{◌≡◌, ◌≢◌, ℕ, zero, suc, ◌+◌, ◌-◌, ◌<◌, ◌≤◌, Bool, true, false, cond, not, ◌==◌, List, [], ◌∷◌, ◌++◌}
use Rattle.std.proofs.Common.{length, map}
use Rattle.std.proofs.Common.{Option, Some, None, Ok, Err, Result, nat_eq, refl, sym, ap, subst, ◌∙◌, arith}
use Rattle.std.proofs.lemmas.Bool.{eqb-true, eq-eqb, le-leb}
use Rattle.std.proofs.lemmas.List.{length-map}
use Rattle.std.specs.Prelude.{is_ok, slice_get}
use Rattle.std.specs.List.{AllByRecursion}
use Rattle.std.specs.Option.{option_map}
use Rattle.sf_base.specs.Data.{Assigned, Datum, datum_at}
use Rattle.sf_base.specs.declared.values.Kind.{Kind}
use Rattle.sf_format.specs.declared.unit.PrintConv.{PrintConv}
use Rattle.sf_format.specs.declared.unit.Unit.{Unit as PrintUnit}
use Rattle.sf_format.specs.declared.unit.Unit.TheVariants as unit
use Rattle.sf_format.specs.Slots.{AreDistinct, AreSlots, Slotted, kind_with, slots_from}
use Rattle.sf_format.specs.Units.{values_of}
use Rattle.sf_print.specs.declared.fault.PrintFault.{PrintFault}
use Rattle.sf_print.specs.declared.fault.PrintFault.TheVariants.{TooLong, WrongCount}
use Rattle.sf_print.specs.Given.{fault_of_given, given_at, given_fault, given_measured, given_or_none, given_printed, given_text}
use Rattle.sf_print.specs.Given.{given_unit}
use Rattle.sf_print.specs.Given.{lowest_given_fault}
use Rattle.sf_print.specs.InPlace.{AreSuited, Suits, printed_by, text_by}
use Rattle.sf_print.specs.Printed.{fault_or_none, length_or_fault, text_or_none}
use Rattle.sf_print.proofs.InPlace.{none_lowest}
use Rattle.sf_forms.specs.makers.Prints.{in_kind, printed_at, printed_row, value_found}

-- ---- the value of each slot of a row

get_slot : {A : Type 0} (f : ℕ → A) (place n slot : ℕ) → place ≤ slot → slot < place + n
    → slice_get (map f (slots_from place n)) (slot - place) ≡ Some (f slot)
get_slot f place zero slot low high = absurd (omega (arith, low, high))
get_slot {A = A} f place (suc n) slot low high =
    by (slot - place) refl (λ (above : place + 1 ≤ slot). get_slot f (place + 1) n slot above (omega (arith, high)))
  where
    by : (k : ℕ) → slot - place ≡ k
        → (place + 1 ≤ slot → slice_get (map f (slots_from (place + 1) n)) (slot - (place + 1)) ≡ Some (f slot))
        → slice_get (map f (slots_from place (suc n))) k ≡ Some (f slot)
    by zero e later = ap (λ (m : ℕ). Some (f m)) {x = place} {y = slot} (omega (arith, e, low))
    by (suc k) e later =
        ap (slice_get (map f (slots_from (place + 1) n))) {x = k} {y = slot - (place + 1)} (omega (arith, e))
        ∙ later (omega (arith, e))

row_at : (units : List PrintUnit) (values : List Assigned) (n slot : ℕ) → 1 ≤ slot → slot ≤ n
    → given_at (printed_row units n values) slot ≡ Some (printed_at units values slot)
row_at units values n slot low high = by (slot == 0) refl
  where
    by : (t : Bool) → (slot == 0) ≡ t
        → cond t None (slice_get (printed_row units n values) (slot - 1)) ≡ Some (printed_at units values slot)
    by true e = absurd (omega (arith, low, eqb-true slot 0 e))
    by false e = get_slot (printed_at units values) 1 n slot low (omega (arith, high))

slots_length : (place n : ℕ) → length (slots_from place n) ≡ n
slots_length place zero = refl
slots_length place (suc n) = ap suc (slots_length (place + 1) n)

-- ---- the kind of each conversion is that of its slot

abbrev numbers : List PrintUnit → List ℕ
numbers us = map (λ (e : Slotted). e.0) (values_of us)

abbrev HasKind : List Slotted → PrintUnit → Type 0
HasKind entries (unit.Byte b) = Unit {0}
HasKind entries (unit.Conv c) = kind_with c.slot entries ≡ Some c.kind

kind_stays : (slot : ℕ) (kind : Kind) (entries : List Slotted) (us : List PrintUnit) → AllByRecursion (λ m. m ≢ slot) (numbers us)
    → AllByRecursion (HasKind entries) us → AllByRecursion (HasKind ((slot, kind) ∷ entries)) us
kind_stays slot kind entries [] other have = tt
kind_stays slot kind entries (unit.Byte b ∷ us) other have = (tt, kind_stays slot kind entries us other have.1)
kind_stays slot kind entries (unit.Conv c ∷ us) other have =
    (by (nat_eq slot c.slot) refl, kind_stays slot kind entries us other.1 have.1)
  where
    by : (t : Bool) → nat_eq slot c.slot ≡ t → kind_with c.slot ((slot, kind) ∷ entries) ≡ Some c.kind
    by true e = absurd (other.0 (sym (eqb-true slot c.slot e)))
    by false e = rw e have.0

have_kinds : (us : List PrintUnit) → AreDistinct (numbers us) → AllByRecursion (HasKind (values_of us)) us
have_kinds [] apart = tt
have_kinds (unit.Byte b ∷ us) apart = (tt, have_kinds us apart)
have_kinds (unit.Conv c ∷ us) apart = (
  rw (eq-eqb c.slot c.slot refl) refl,
  kind_stays c.slot c.kind (values_of us) us apart.0 (have_kinds us apart.1),
)

-- ---- unit by unit

abbrev Agree : List PrintUnit → ℕ → List Assigned → List PrintUnit → Type 0
Agree units n values us =
    (printed_by (value_found values) us ≡ given_printed us (printed_row units n values))
    × AllByRecursion (λ u. given_fault (printed_row units n values) u ≡ None) us

agree : (units : List PrintUnit) (n : ℕ) (values : List Assigned) (us : List PrintUnit)
    → AllByRecursion (λ m. (1 ≤ m) × (m ≤ n)) (numbers us) → AllByRecursion (HasKind (values_of units)) us
    → AreSuited (value_found values) us → Agree units n values us
agree units n values [] within kinds suited = (refl, tt)
agree units n values (unit.Byte b ∷ us) within kinds suited =
    let rest = agree units n values us within kinds.1 suited.1 in
    (ap (λ (t : List ℕ). b ∷ t) rest.0, (refl, rest.1))
agree units n values (unit.Conv c ∷ us) within kinds suited =
    let rest = agree units n values us within.1 kinds.1 suited.1 in
    let row : List (Option Datum) = printed_row units n values in
    let here : given_at row c.slot ≡ Some (value_found values c) =
    row_at units values n c.slot within.0.0 within.0.1
    ∙ ap (λ k. Some (option_map (in_kind k) (datum_at c.slot values))) kinds.0 in (
      (λ i. (text_is (value_found values c) suited.0 ∙ ap (given_or_none c) (sym here)) i ++ rest.0 i),
      (ap (fault_of_given c) here ∙ no_fault (value_found values c) suited.0, rest.1),
    )
  where
    text_is : (found : Option Datum) → Suits c found → text_or_none c found ≡ given_or_none c (Some found)
    text_is None suits = absurd suits
    text_is (Some value) suits = refl

    no_fault : (found : Option Datum) → Suits c found → fault_of_given c (Some found) ≡ None
    no_fault None suits = absurd suits
    no_fault (Some value) suits = suits

-- ---- the record

agrees : (units : List PrintUnit) (n : ℕ) (values : List Assigned) → AreSlots (values_of units) → n ≡ length (values_of units)
    → AreSuited (value_found values) units → Agree units n values units
agrees units n values slots count suited =
    agree units n values units (subst (λ (k : ℕ). AllByRecursion (λ m. (1 ≤ m) × (m ≤ k)) (numbers units)) (sym count) slots.each)
    (have_kinds units slots.distinct) suited

pub record_text : (units : List PrintUnit) (n : ℕ) (values : List Assigned) → AreSlots (values_of units) → n ≡ length (values_of units)
    → AreSuited (value_found values) units → printed_by (value_found values) units ≡ given_printed units (printed_row units n values)
record_text units n values slots count suited = (agrees units n values slots count suited).0

pub record_fits : (units : List PrintUnit) (n : ℕ) (values : List Assigned) → AreSlots (values_of units) → n ≡ length (values_of units)
    → AreSuited (value_found values) units → length (given_printed units (printed_row units n values)) ≤ 2147483647
    → is_ok (given_measured units (printed_row units n values)) ≡ true
record_fits units n values slots count suited short =
    ap (λ (b : Bool). is_ok (cond (not b) (Err WrongCount)
    (length_or_fault (lowest_given_fault units row) (length (given_printed units row)))))
    (eq-eqb (length row) (length (values_of units))
    (length-map (slots_from 1 n) (printed_at units values) ∙ slots_length 1 n ∙ count))
    ∙ ap (λ (f : Option PrintFault). is_ok (length_or_fault f (length (given_printed units row))))
    (none_lowest (given_fault row) units (agrees units n values slots count suited).1)
    ∙ ap (λ (b : Bool). is_ok (cond b (Ok (length (given_printed units row))) (Err TooLong)))
    (le-leb (length (given_printed units row)) 2147483647 short)
  where
    row : List (Option Datum)
    row = printed_row units n values
