-- Words that stand for values have values that no fault is told of.
use Rattle.std.proofs.Common.{◌≡◌, ℕ, ◌+◌, ◌-◌, ◌<◌, ◌≤◌, true, cond, not, ◌==◌, List, [], ◌∷◌, length, fold, Option, Some, None, inl, inr}
use Rattle.std.proofs.Common.{arith, refl, sym, ap, subst, ◌∙◌, get_or}
use Rattle.std.proofs.lemmas.Bool.Decides.{nat_tests}
use Rattle.std.proofs.lemmas.Option.{slice_get-get_or}
use Rattle.std.specs.Prelude.{slice_get}
use Rattle.sf_base.specs.Data.{Datum}
use Rattle.sf_base.specs.declared.values.Kind.{Kind}
use Rattle.sf_base.specs.declared.values.Kind.TheVariants as kind
use Rattle.sf_format.specs.declared.unit.PrintLetter.{PrintLetter}
use Rattle.sf_format.specs.declared.unit.PrintLetter.TheVariants as letter
use Rattle.sf_format.specs.declared.unit.PrintConv.{PrintConv}
use Rattle.sf_format.specs.declared.unit.Unit.{Unit as PrintUnit}
use Rattle.sf_format.specs.declared.unit.Unit.TheVariants as unit
use Rattle.sf_format.specs.Slots.{AreSlots}
use Rattle.sf_format.specs.Units.{AreProperUnits, IsProperUnit, is_double, is_text, prints_kind, values_of}
use Rattle.sf_format.proofs.Outcomes.{by_test}
use Rattle.sf_print.specs.declared.fault.PrintFault.{PrintFault}
use Rattle.sf_print.specs.declared.fault.PrintFault.TheVariants as fault
use Rattle.sf_print.specs.Printed.{value_at, kind_of, same_kind, suits, value_fault, fault_or_none, unit_fault, lower, lowest_fault}
use Rattle.sf_print.proofs.Judged.{same_is_printed}
use Rattle.sf_arguments.specs.Words.{StandsFor}
use Rattle.sf_arguments.specs.declared.word_reading.WordReading.{WordReading}
use Rattle.sf_arguments.specs.Arguments.{ValuesOf, conv_at}
use Rattle.sf_arguments.proofs.Finding.{Among, conv_found, slot_has}

-- ---- a value that a word stands for suits its conversion

kind_itself : (k : Kind) → same_kind k k ≡ true
kind_itself kind.I8 = refl
kind_itself kind.I16 = refl
kind_itself kind.I32 = refl
kind_itself kind.I64 = refl
kind_itself kind.U8 = refl
kind_itself kind.U16 = refl
kind_itself kind.U32 = refl
kind_itself kind.U64 = refl
kind_itself kind.Text = refl
kind_itself kind.F32 = refl
kind_itself kind.F64 = refl

same_text : (k : Kind) → is_text k ≡ true → same_kind kind.Text k ≡ true
same_text kind.I8 e = absurd (cc)
same_text kind.I16 e = absurd (cc)
same_text kind.I32 e = absurd (cc)
same_text kind.I64 e = absurd (cc)
same_text kind.U8 e = absurd (cc)
same_text kind.U16 e = absurd (cc)
same_text kind.U32 e = absurd (cc)
same_text kind.U64 e = absurd (cc)
same_text kind.Text e = refl
same_text kind.F32 e = absurd (cc)
same_text kind.F64 e = absurd (cc)

same_double : (k : Kind) → is_double k ≡ true → same_kind kind.F64 k ≡ true
same_double kind.F64 e = refl
same_double _ e = absurd (cc)

one_is_one : (n : ℕ) → n ≡ 1 → (n == 1) ≡ true
one_is_one n e = ap (λ m. m == 1) e

abbrev Suits : PrintLetter → Kind → Datum → Type 0
Suits l k value = (same_kind (kind_of value) k ≡ true) × (suits l value ≡ true)

suited : (how : WordReading) (l : PrintLetter) (k : Kind) (word : List ℕ) (value : Datum) → prints_kind l k ≡ true
    → StandsFor how l k word value → Suits l k value
suited how letter.Text k word value proper (bytes, good, is) = subst (Suits letter.Text k) (sym is) (same_text k proper, refl)
suited how letter.One k word value proper (bytes, good, one, is) = subst (Suits letter.One k) (sym is)
    (same_text k proper, one_is_one (length bytes) one)
suited how letter.Signed k word value proper (z, d, i, is) = subst (Suits letter.Signed k) (sym is) (kind_itself k, refl)
suited how letter.Unsigned k word value proper (z, d, i, is) = subst (Suits letter.Unsigned k) (sym is) (kind_itself k, refl)
suited how letter.Octal k word value proper (z, d, i, is) = subst (Suits letter.Octal k) (sym is) (kind_itself k, refl)
suited how letter.HexLower k word value proper (z, d, i, is) = subst (Suits letter.HexLower k) (sym is) (kind_itself k, refl)
suited how letter.HexUpper k word value proper (z, d, i, is) = subst (Suits letter.HexUpper k) (sym is) (kind_itself k, refl)
suited how letter.Binary k word value proper (z, d, i, is) = subst (Suits letter.Binary k) (sym is) (kind_itself k, refl)
suited how (letter.Float style upper) k word value proper (bits, f, s, is) =
    subst (Suits (letter.Float style upper) k) (sym is) (same_double k proper, refl)

suits_so : (c : PrintConv) (value : Datum) → Suits c.letter c.kind value → value_fault c value ≡ None
suits_so c value (same, suit) =
    ap (λ v. cond (not v) (Some (fault.WrongKind c.slot)) (cond (not (suits c.letter value)) (Some (fault.NotOneByte c.slot)) None))
    (same_is_printed (kind_of value) c.kind same)
    ∙ ap (λ v. cond (not v) (Some (fault.NotOneByte c.slot)) None) suit

-- ---- each unit

value_at_slot : (values : List Datum) (slot : ℕ) (value : Datum) → 1 ≤ slot → slice_get values (slot - 1) ≡ Some value
    → value_at values slot ≡ Some value
value_at_slot values slot value low is = by_test (slot == 0) (λ v. cond v None (slice_get values (slot - 1)) ≡ Some value)
    (λ none. absurd (grind (arith, nat_tests))) (λ some. is)

same_conv : (c d : PrintConv) (o : Option PrintConv) → o ≡ Some c → o ≡ Some d → d ≡ c
same_conv c d o e f = cc

module _ (how : WordReading) (units : List PrintUnit) (words : List (List ℕ)) (values : List Datum) (slots : AreSlots (values_of units))
    (of : ValuesOf how units words values) where
  unit_suits : (u : PrintUnit) → IsProperUnit u → Among u units → unit_fault values u ≡ None
  unit_suits (unit.Byte b) proper there = refl
  unit_suits (unit.Conv c) proper there =
      let within = slot_has (λ n. (1 ≤ n) × (n ≤ length (values_of units))) units c slots.each there in
      let word = get_or words (c.slot - 1) [] in
      let below : c.slot - 1 < length words = omega (arith, within.0, within.1, of.count) in
      let e = of.each (c.slot - 1) word (slice_get-get_or words (c.slot - 1) [] below) in
      let back : c.slot - 1 + 1 ≡ c.slot = omega (arith, within.0) in
      let same : e.2.0 ≡ c = same_conv c e.2.0 (conv_at units c.slot) (conv_found units c slots.distinct there)
      (subst (λ n. conv_at units n ≡ Some e.2.0) back e.2.1) in
      let stands : StandsFor how c.letter c.kind word e.0 = subst (λ (d : PrintConv). StandsFor how d.letter d.kind word e.0) same e.2.2 in
      ap (fault_or_none c) (value_at_slot values c.slot e.0 within.0 e.1)
      ∙ suits_so c e.0 (suited how c.letter c.kind word e.0 proper.kind stands)

  none_lower : (o : Option PrintFault) → o ≡ None → lower None o ≡ None
  none_lower o e = e

  fold_suits : (us : List PrintUnit) → AreProperUnits us → ((u : PrintUnit) → Among u us → Among u units)
      → fold (λ f u. lower f (unit_fault values u)) None us ≡ None
  fold_suits [] proper into = refl
  fold_suits (u ∷ us) proper into =
      ap (λ f. fold (λ g v. lower g (unit_fault values v)) f us) (unit_suits u proper.0 (into u (inl refl)))
      ∙ fold_suits us proper.1 (λ v there. into v (inr there))

  -- so the writer refuses none of them
  pub no_fault : AreProperUnits units → lowest_fault units values ≡ None
  no_fault proper = fold_suits units proper (λ u there. there)
