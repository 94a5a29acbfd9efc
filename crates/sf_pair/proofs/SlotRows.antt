-- The values that are read back, slot by slot.
use Rattle.std.proofs.Common.{◌≡◌, ℕ, zero, suc, ◌+◌, ◌-◌, ◌<◌, Bool, true, false, cond, nat_eq, List, [], ◌∷◌, length, map, Option, Some}
use Rattle.std.proofs.Common.{None, refl, sym, ap, ap₂, subst, ◌∙◌, arith}
use Rattle.std.proofs.lemmas.Bool.Decides.{nat_tests}
use Rattle.std.specs.Prelude.{IsSome, find, slice_get}
use Rattle.std.specs.List.{cons_option}
use Rattle.std.specs.Option.{option_map}
use Rattle.sf_base.specs.Data.{Datum, Assigned, datum_at}
use Rattle.sf_format.specs.declared.unit.Unit.{Unit as PrintUnit}
use Rattle.sf_format.specs.declared.unit.Unit.TheVariants as unit
use Rattle.sf_format.specs.Slots.{Slotted, kind_with, slots_from}
use Rattle.sf_format.specs.Units.{AreAccepted, values_of}
use Rattle.sf_print.specs.Printed.{value_at}
use Rattle.sf_report.specs.Rows.{AreRowOf}
use Rattle.sf_pair.specs.conversions.Below.{LawsBelow}
use Rattle.sf_pair.specs.Laws.{with_value, printed_values}

same_slot : (a b : ℕ) → nat_eq a b ≡ true → a ≡ b
same_slot a b e = grind (arith, nat_tests)

turned : (a b : ℕ) → nat_eq a b ≡ nat_eq b a
turned a b = by (nat_eq a b) (nat_eq b a) refl refl
  where
    by : (s t : Bool) → nat_eq a b ≡ s → nat_eq b a ≡ t → s ≡ t
    by true true e f = refl
    by false false e f = refl
    by true false e f = absurd (grind (arith, nat_tests))
    by false true e f = absurd (grind (arith, nat_tests))

found_first : (slot at : ℕ) (v : Datum) (rest : List Assigned) → nat_eq at slot ≡ true
    → datum_at slot (record { slot = at; datum = v } ∷ rest) ≡ Some v
found_first slot at v rest same = ap (λ (t : Bool). option_map (λ (a : Assigned). a.datum)
    (cond t (Some (record { slot = at; datum = v })) (find (λ a. nat_eq slot a.slot) rest))) (turned slot at ∙ same)

passed_by : (slot at : ℕ) (o : Option Datum) (rest : List Assigned) → nat_eq at slot ≡ false
    → datum_at slot (cons_option (with_value at o) rest) ≡ datum_at slot rest
passed_by slot at None rest other = refl
passed_by slot at (Some w) rest other = ap (λ (t : Bool). option_map (λ (a : Assigned). a.datum)
    (cond t (Some (record { slot = at; datum = w })) (find (λ a. nat_eq slot a.slot) rest))) (turned slot at ∙ other)

-- a slot that some conversion prints was given the slot's value
given : (us : List PrintUnit) (values : List Datum) (slot : ℕ) (v : Datum) → value_at values slot ≡ Some v
    → IsSome (kind_with slot (values_of us)) → datum_at slot (printed_values us values) ≡ Some v
given [] values slot v e some = absurd cc
given (unit.Byte b ∷ us) values slot v e some = given us values slot v e some
given (unit.Conv c ∷ us) values slot v e some = by (given us values slot v e) (nat_eq c.slot slot) refl
  where
    by : (IsSome (kind_with slot (values_of us)) → datum_at slot (printed_values us values) ≡ Some v) → (t : Bool) → nat_eq c.slot slot ≡ t
        → datum_at slot (cons_option (with_value c.slot (value_at values c.slot)) (printed_values us values)) ≡ Some v
    by more true same =
        let at : value_at values c.slot ≡ Some v = ap (value_at values) (same_slot c.slot slot same) ∙ e in
        ap (λ (o : Option Datum). datum_at slot (cons_option (with_value c.slot o) (printed_values us values))) at
        ∙ found_first slot c.slot v (printed_values us values) same
    by more false other =
        let later : IsSome (kind_with slot (values_of us)) =
        subst (λ (t : Bool). IsSome (option_map (λ (d : Slotted). d.1)
        (cond t (Some (c.slot, c.kind)) (find (λ d. nat_eq d.0 slot) (values_of us))))) other some in
        passed_by slot c.slot (value_at values c.slot) (printed_values us values) other ∙ more later

-- the values from a place on
each : (f : ℕ → Option Datum) (row : List Datum) (place : ℕ) → ((k : ℕ) → k < length row → f (place + k) ≡ slice_get row k)
    → map Some row ≡ map f (slots_from place (length row))
each f [] place h = refl
each f (v ∷ row) place h =
    ap₂ (λ (o : Option Datum) (os : List (Option Datum)). o ∷ os) (sym (ap f {x = place} {y = place + 0} (omega arith) ∙ h 0 (omega arith)))
    (each f row (place + 1) (λ k below. ap f {x = place + 1 + k} {y = place + (k + 1)} (omega arith) ∙ h (k + 1) (omega arith)
    ∙ ap (slice_get (v ∷ row)) {x = k + 1} {y = suc k} (omega arith)))

there : (values : List Datum) (k : ℕ) → k < length values → (v : Datum) × (slice_get values k ≡ Some v)
there [] k h = absurd (omega arith)
there (v ∷ values) zero h = (v, refl)
there (v ∷ values) (suc k) h = there values k (omega arith)

at_place : (values : List Datum) (k : ℕ) → value_at values (1 + k) ≡ slice_get values k
at_place values k = by (1 + k) (omega arith)
  where
    by : (slot : ℕ) → slot ≡ suc k → value_at values slot ≡ slice_get values k
    by zero e = absurd (omega (arith, e))
    by (suc n) e =
        ap (λ (t : Bool). cond t None (slice_get values (suc n - 1)))
        (let none : nat_eq (suc n) 0 ≡ false = grind (arith, nat_tests) in none)
        ∙ ap (slice_get values) {x = suc n - 1} {y = k} (omega (arith, e))

pub row_of_printed : LawsBelow → (us : List PrintUnit) (values : List Datum) → AreAccepted us → length values ≡ length (values_of us)
    → AreRowOf (length values) values (printed_values us values)
row_of_printed laws us values accepted count =
    each (λ slot. datum_at slot (printed_values us values)) values 1 (λ k below.
    let v = there values k below in
    given us values (1 + k) v.0 (at_place values k ∙ v.1) ((laws.kinds (1 + k) (values_of us) accepted.slots).1
    (omega arith, omega (arith, count))) ∙ sym v.1)
