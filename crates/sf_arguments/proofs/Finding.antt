-- Letters of numbers, the conversion of a slot.
use Rattle.std.proofs.Common.{◌≡◌, ◌≢◌, ◌⊎◌, inl, inr, ℕ, ◌≤◌, true, false, cond, nat_eq, List, [], ◌∷◌, length, map, find, Option, Some}
use Rattle.std.proofs.Common.{None, is_some, refl, sym, subst, ap, ◌∙◌, arith}
use Rattle.std.proofs.lemmas.Bool.Decides.{nat_tests}
use Rattle.std.specs.Prelude.{IsSome}
use Rattle.std.specs.List.{AllByRecursion}
use Rattle.std.specs.Option.{option_map}
use Rattle.sf_base.specs.Data.{Datum}
use Rattle.sf_base.specs.declared.values.Kind.{Kind}
use Rattle.sf_format.specs.declared.unit.PrintLetter.{PrintLetter}
use Rattle.sf_format.specs.declared.unit.PrintLetter.TheVariants.{Signed, Unsigned, Octal, HexLower, HexUpper, Binary}
use Rattle.sf_format.specs.declared.unit.PrintConv.{PrintConv}
use Rattle.sf_format.specs.declared.unit.Unit.{Unit as PrintUnit}
use Rattle.sf_format.specs.declared.unit.Unit.TheVariants as unit
use Rattle.sf_format.specs.Slots.{Slotted, AreDistinct, AreSlots, kind_with}
use Rattle.sf_format.specs.Units.{values_of}
use Rattle.sf_format.proofs.Outcomes.{by_test}
use Rattle.sf_format.proofs.SlotLookups.{kinds_are}
use Rattle.sf_arguments.specs.Arguments.{conv_at}
use Rattle.sf_arguments.specs.Words.{IsNumberOf, StandsFor}
use Rattle.sf_arguments.specs.declared.word_reading.WordReading.{WordReading}

-- the letters of numbers
abbrev pub IsOfNumber : PrintLetter → Type 0
IsOfNumber l = (l ≡ Signed) ⊎ ((l ≡ Unsigned) ⊎ ((l ≡ Octal) ⊎ ((l ≡ HexLower) ⊎ ((l ≡ HexUpper) ⊎ (l ≡ Binary)))))

-- they print the numbers of their kind
pub number_stands : (how : WordReading) (l : PrintLetter) → IsOfNumber l → (P : (Datum → Type 0) → Type 0) → (k : Kind) (word : List ℕ)
    → P (IsNumberOf k word)
    → P (StandsFor how l k word)
number_stands how l (inl is) P k word h = rw is h
number_stands how l (inr (inl is)) P k word h = rw is h
number_stands how l (inr (inr (inl is))) P k word h = rw is h
number_stands how l (inr (inr (inr (inl is)))) P k word h = rw is h
number_stands how l (inr (inr (inr (inr (inl is))))) P k word h = rw is h
number_stands how l (inr (inr (inr (inr (inr is))))) P k word h = rw is h

-- ---- the conversion of a slot

same_kind_found : (units : List PrintUnit) (slot : ℕ) → kind_with slot (values_of units) ≡ option_map (λ c. c.kind) (conv_at units slot)
same_kind_found [] slot = refl
same_kind_found (unit.Byte b ∷ us) slot = same_kind_found us slot
same_kind_found (unit.Conv c ∷ us) slot =
    by_test (nat_eq c.slot slot)
    (λ v. option_map (λ (d : Slotted). d.1) (cond v (Some (c.slot, c.kind)) (find (λ (d : Slotted). nat_eq d.0 slot) (values_of us)))
    ≡ option_map (λ (d : PrintConv). d.kind) (cond v (Some c) (conv_at us slot)))
    (λ same. refl) (λ other. same_kind_found us slot)

some_kind : (o : Option PrintConv) → is_some (option_map (λ c. c.kind) o) ≡ is_some o
some_kind None = refl
some_kind (Some c) = refl

-- each slot from 1 to the count has a conversion
pub slot_found : (units : List PrintUnit) → AreSlots (values_of units) → (slot : ℕ) → 1 ≤ slot → slot ≤ length (values_of units)
    → IsSome (conv_at units slot)
slot_found units slots slot low high = sym (some_kind (conv_at units slot)) ∙ ap is_some (sym (same_kind_found units slot))
    ∙ (kinds_are slot (values_of units) slots).1 (low, high)

-- ---- the conversions of a format are those of their slots

abbrev pub Among : PrintUnit → List PrintUnit → Type 0
Among u [] = ⊥
Among u (v ∷ us) = (u ≡ v) ⊎ Among u us

abbrev numbers : List PrintUnit → List ℕ
numbers us = map (λ v. v.0) (values_of us)

-- what holds of all slots holds of that of a conversion
pub slot_has : (P : ℕ → Type 0) (us : List PrintUnit) (c : PrintConv) → AllByRecursion P (numbers us) → Among (unit.Conv c) us → P c.slot
slot_has P [] c all there = absurd there
slot_has P (unit.Byte b ∷ us) c all (inl is) = absurd (cc)
slot_has P (unit.Byte b ∷ us) c all (inr later) = slot_has P us c all later
slot_has P (unit.Conv d ∷ us) c all (inl is) = let e : c ≡ d = cc in subst P (sym (ap (λ (x : PrintConv). x.slot) e)) all.0
slot_has P (unit.Conv d ∷ us) c all (inr later) = slot_has P us c all.1 later

differ : (a b : ℕ) → a ≢ b → nat_eq b a ≡ false
differ a b other = by_test (nat_eq b a) (λ v. v ≡ false) (λ same. absurd (other (grind (arith, nat_tests)))) (λ less. refl)

same_itself : (a : ℕ) → nat_eq a a ≡ true
same_itself a = grind (arith, nat_tests)

pub conv_found : (us : List PrintUnit) (c : PrintConv) → AreDistinct (numbers us) → Among (unit.Conv c) us → conv_at us c.slot ≡ Some c
conv_found [] c distinct there = absurd there
conv_found (unit.Byte b ∷ us) c distinct (inl is) = absurd (cc)
conv_found (unit.Byte b ∷ us) c distinct (inr later) = conv_found us c distinct later
conv_found (unit.Conv d ∷ us) c distinct (inl is) =
    let e : d ≡ c = cc in
    ap (λ v. cond v (Some d) (conv_at us c.slot)) (ap (λ (x : PrintConv). nat_eq x.slot c.slot) e ∙ same_itself c.slot)
    ∙ ap (λ (x : PrintConv). Some x) e
conv_found (unit.Conv d ∷ us) c distinct (inr later) =
    ap (λ v. cond v (Some d) (conv_at us c.slot)) (differ c.slot d.slot (slot_has (λ m. m ≢ d.slot) us c distinct.0 later))
    ∙ conv_found us c distinct.1 later
