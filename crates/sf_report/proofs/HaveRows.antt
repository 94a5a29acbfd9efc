-- A Done report of an accepted format has a row.
use Rattle.std.proofs.Common.{◌≡◌, ℕ, zero, suc, ◌+◌, ◌-◌, ◌<◌, ◌≤◌, false, cond, nat_eq, nat_lt, List, [], ◌∷◌, length, map, Option, Some}
use Rattle.std.proofs.Common.{None, refl, sym, ap, ap₂, ◌∙◌, arith}
use Rattle.std.proofs.lemmas.Bool.Decides.{nat_tests}
use Rattle.std.proofs.lemmas.Option.{slice_get_past}
use Rattle.std.specs.Prelude.{IsSome, slice_get}
use Rattle.std.specs.List.{AllByRecursion, cons_option, filter_map}
use Rattle.std.specs.Option.{option_map}
use Rattle.sf_base.specs.declared.values.Kind.{Kind}
use Rattle.sf_base.specs.Data.{Datum, datum_at}
use Rattle.sf_format.specs.declared.directive.Directive.{Directive}
use Rattle.sf_format.specs.Proper.{destinations_of, kind_at}
use Rattle.sf_format.specs.Slots.{AreSlots, slots_from}
use Rattle.sf_format.proofs.Outcomes.{by_test}
use Rattle.sf_format.proofs.SlotLookups.{kinds_are}
use Rattle.sf_report.specs.Laws.{EachDoneRunFillsSlots, EachDoneRunHasItsRow}
use Rattle.sf_report.specs.Rows.{IsValue, at_slot, kind_of, kinds_of}
use Rattle.sf_report.proofs.Filling.{done_fills, each_given, none_may}
use Rattle.sf_report.proofs.Values.{done_given, found_given, readable_at}

-- ---- lists of what is there for each

-- something is there for each slot
abbrev AreThere : {A : Type 0} → (ℕ → Option A) → List ℕ → Type 0
AreThere f slots = AllByRecursion (λ slot. IsSome (f slot)) slots

there_from : {A : Type 0} (f : ℕ → Option A) (place n : ℕ) → ((slot : ℕ) → place ≤ slot → slot < place + n → IsSome (f slot))
    → AreThere f (slots_from place n)
there_from f place zero h = tt
there_from f place (suc n) h = (
  h place (omega arith) (omega arith),
  there_from f (place + 1) n (λ slot low high. h slot (omega (arith, low)) (omega (arith, high))),
)

listed_length : {A : Type 0} (f : ℕ → Option A) (place n : ℕ) → AreThere f (slots_from place n)
    → length (filter_map f (slots_from place n)) ≡ n
listed_length f place zero there = refl
listed_length {A} f place (suc n) there = by (f place) there.0 (listed_length f (place + 1) n there.1)
  where
    by : (o : Option A) → IsSome o → length (filter_map f (slots_from (place + 1) n)) ≡ n
        → length (cons_option o (filter_map f (slots_from (place + 1) n))) ≡ suc n
    by None some rest = absurd cc
    by (Some a) some rest = ap suc rest

listed_at : {A : Type 0} (f : ℕ → Option A) (place n k : ℕ) → AreThere f (slots_from place n) → k < n
    → slice_get (filter_map f (slots_from place n)) k ≡ f (place + k)
listed_at f place zero k there low = absurd (omega (arith, low))
listed_at {A} f place (suc n) k there low = by (f place) there.0 refl (λ j less. listed_at f (place + 1) n j there.1 less) k low
  where
    rest : List A
    rest = filter_map f (slots_from (place + 1) n)

    by : (o : Option A) → IsSome o → f place ≡ o → ((j : ℕ) → j < n → slice_get rest j ≡ f (place + 1 + j)) → (k : ℕ) → k < suc n
        → slice_get (cons_option o rest) k ≡ f (place + k)
    by None some is later k low = absurd cc
    by (Some a) some is later zero low = sym is ∙ ap f {x = place} {y = place + 0} (omega arith)
    by (Some a) some is later (suc k) low = later k (omega (arith, low)) ∙ ap f {x = place + 1 + k} {y = place + suc k} (omega arith)

-- ---- the row

-- the data of the slots, where each has one
record Row (slots : List ℕ) (given : ℕ → Option Datum) (kinds : ℕ → Option Kind) : Type 0 where
  row : List Datum
  is_row : map Some row ≡ map given slots
  kinds_are : map kind_of row ≡ filter_map kinds slots
  are_values : AllByRecursion IsValue row

row_of : (slots : List ℕ) (given : ℕ → Option Datum) (kinds : ℕ → Option Kind) → ((slot : ℕ) → option_map kind_of (given slot) ≡ kinds slot)
    → ((slot : ℕ) (v : Datum) → given slot ≡ Some v → IsValue v) → AreThere kinds slots → Row slots given kinds
row_of [] given kinds same values there = record { row = []; is_row = refl; kinds_are = refl; are_values = tt }
row_of (slot ∷ slots) given kinds same values there = by (given slot) (kinds slot) refl refl (same slot) there.0
    (row_of slots given kinds same values there.1)
  where
    by : (o : Option Datum) (k : Option Kind) → given slot ≡ o → kinds slot ≡ k → option_map kind_of o ≡ k → IsSome k
        → Row slots given kinds → Row (slot ∷ slots) given kinds
    by None None is kind e some rest = absurd cc
    by None (Some k) is kind e some rest = absurd cc
    by (Some v) None is kind e some rest = absurd cc
    by (Some v) (Some k) is kind e some rest = record {
      row = v ∷ rest.row;
      is_row = ap₂ (λ (a : Option Datum) (b : List (Option Datum)). a ∷ b) (sym is) rest.is_row;
      kinds_are = let first : kind_of v ≡ k = cc in
          ap₂ (λ (a : Kind) (b : List Kind). a ∷ b) first rest.kinds_are
          ∙ ap (λ (a : Option Kind). cons_option a (filter_map kinds slots)) (sym kind);
      are_values = (values slot v is, rest.are_values);
    }

-- ---- the destinations of a format

not_zero : (slot : ℕ) → nat_eq slot 0 ≡ false → 1 ≤ slot
not_zero slot other = grind (arith, nat_tests)

none_is : {A : Type 0} (o : Option A) → (IsSome o → ⊥) → o ≡ None
none_is None h = refl
none_is (Some x) h = absurd (h refl)

module _ (ds : List Directive) (slots : AreSlots (destinations_of ds)) where
  kinds_there : AreThere (λ slot. kind_at slot ds) (slots_from 1 (length (destinations_of ds)))
  kinds_there = there_from (λ slot. kind_at slot ds) 1 (length (destinations_of ds))
      (λ slot low high. (kinds_are slot (destinations_of ds) slots).1 (low, omega (arith, high)))

  kind_is : (slot : ℕ) → at_slot slot (kinds_of ds) ≡ kind_at slot ds
  kind_is slot = by_test (nat_eq slot 0) (λ t. cond t None (slice_get (kinds_of ds) (slot - 1)) ≡ kind_at slot ds)
      (λ zero. sym (none_is (kind_at slot ds) (λ some. let is : slot ≡ 0 = grind (arith, nat_tests) in
      absurd (omega (arith, is, ((kinds_are slot (destinations_of ds) slots).0 some).0)))))
      (λ other. by (not_zero slot other))
    where
      by : 1 ≤ slot → slice_get (kinds_of ds) (slot - 1) ≡ kind_at slot ds
      by low = by_test (nat_lt (length (destinations_of ds)) slot) (λ t. slice_get (kinds_of ds) (slot - 1) ≡ kind_at slot ds)
          (λ above. let high : length (destinations_of ds) < slot = grind (arith, nat_tests) in
          slice_get_past (kinds_of ds) (slot - 1) (omega (
            arith,
            high,
            listed_length (λ slot. kind_at slot ds) 1 (length (destinations_of ds)) kinds_there,
          ))
          ∙ sym (none_is (kind_at slot ds) (λ some. absurd (omega (arith, high, ((kinds_are slot (destinations_of ds) slots).0 some).1)))))
          (λ within. let high : slot ≤ length (destinations_of ds) = grind (arith, nat_tests) in
          listed_at (λ slot. kind_at slot ds) 1 (length (destinations_of ds)) (slot - 1) kinds_there (omega (arith, low, high))
          ∙ ap (λ (n : ℕ). kind_at n ds) {x = 1 + (slot - 1)} {y = slot} (omega (arith, low)))

pub done_runs_fill_slots : EachDoneRunFillsSlots
done_runs_fill_slots ds accepted m x ending report bytes told done = record {
  each = done_fills ds m x ending report accepted.kinded accepted.slots told done;
  are_values = done_given ds m x ending report bytes told done;
}

pub done_runs_have_rows : EachDoneRunHasItsRow
done_runs_have_rows ds accepted none m x ending report bytes told done =
    let fills = each_given ds report.values (λ slot. none_may slot ds none)
    (done_fills ds m x ending report accepted.kinded accepted.slots told done) in
    let stored = done_given ds m x ending report bytes told done in
    let made = row_of (slots_from 1 (length (destinations_of ds))) (λ slot. datum_at slot report.values) (λ slot. kind_at slot ds) fills
    (λ slot v found. found_given slot report.values v stored found) (kinds_there ds accepted.slots) in
    record {
      row = made.row;
      is_row = made.is_row;
      kinds = made.kinds_are;
      are_values = made.are_values;
      given = λ slot. (
        fills slot ∙ sym (kind_is ds accepted.slots slot),
        readable_at ds m x ending report told done slot,
      );
    }
