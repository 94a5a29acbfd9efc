-- A format makes no text that is too long of numbers and short texts.
use Rattle.std.proofs.Common.{◌≡◌, ℕ, zero, suc, ◌-◌, ◌*◌, ◌≤◌, Bool, true, false, cond, ◌==◌, List, [], ◌∷◌, length}
use Rattle.std.proofs.Common.{Option, Some, None, Result, Ok, Err, IfSome, OnOk}
use Rattle.std.proofs.Common.{MatchResult, ap, ◌∙◌, arith, length-append}
use Rattle.std.proofs.lemmas.Bool.{le-leb, leb-true, and_parts}
use Rattle.std.proofs.lemmas.List.Concat.{flat_map-cons}
use Rattle.std.specs.List.{slice_get}
use Rattle.sf_base.specs.Data.{Datum}
use Rattle.sf_base.specs.Data.Datum.{Number, Bytes, Real}
use Rattle.sf_format.specs.declared.unit.PrintConv.{PrintConv}
use Rattle.sf_format.specs.declared.unit.Unit.{Unit as PrintUnit}
use Rattle.sf_format.specs.declared.unit.Unit.TheVariants as unit
use Rattle.sf_format.specs.Units.{IsProperConv, IsProperUnit, AreProperUnits}
use Rattle.sf_print.specs.texts.Text.{value_text}
use Rattle.sf_print.proofs.TextLemmas.Short.{integer_short, bytes_short, least_small}
use Rattle.sf_print.specs.Printed.{value_at, text_or_none, unit_text, printed, most_bytes, length_or_fault}
use Rattle.sf_print.specs.declared.fault.PrintFault.{PrintFault}
use Rattle.sf_print.specs.declared.fault.PrintFault.TheVariants as fault
use Rattle.sf_print.specs.Short.{is_short, are_short}

-- ---- whole texts

value_short : (c : PrintConv) (value : Datum) → IsProperConv c → is_short value ≡ true → length (value_text c value) ≤ 200000
value_short c (Number k z) proper short = integer_short c z proper.width (least_small c.precision proper.precision)
value_short c (Bytes bytes) proper short = bytes_short c bytes proper.width (leb-true (length bytes) 65536 short)
value_short c (Real r) proper short = absurd cc

found_short : (c : PrintConv) (value : Option Datum) → IsProperConv c → IfSome value (λ v. is_short v ≡ true)
    → length (text_or_none c value) ≤ 200000
found_short c None proper short = omega arith
found_short c (Some value) proper short = value_short c value proper short

get_short : (values : List Datum) (i : ℕ) → are_short values ≡ true → IfSome (slice_get values i) (λ v. is_short v ≡ true)
get_short [] i h = tt
get_short (v ∷ vs) zero h = (and_parts _ _ h).0
get_short (v ∷ vs) (suc i) h = get_short vs i (and_parts _ _ h).1

at_short : (values : List Datum) (slot : ℕ) → are_short values ≡ true → IfSome (value_at values slot) (λ v. is_short v ≡ true)
at_short values slot h = by (slot == 0)
  where
    by : (b : Bool) → IfSome (cond b None (slice_get values (slot - 1))) (λ v. is_short v ≡ true)
    by true = tt
    by false = get_short values (slot - 1) h

unit_short : (values : List Datum) (u : PrintUnit) → IsProperUnit u → are_short values ≡ true → length (unit_text values u) ≤ 200000
unit_short values (unit.Byte b) proper short = omega arith
unit_short values (unit.Conv c) proper short = found_short c (value_at values c.slot) proper (at_short values c.slot short)

units_short : (values : List Datum) (us : List PrintUnit) → AreProperUnits us → are_short values ≡ true
    → length (printed us values) ≤ length us * 200000
units_short values [] proper short = omega arith
units_short values (u ∷ us) proper short =
    omega (
      arith,
      ap length (flat_map-cons (unit_text values) u us),
      length-append (unit_text values u) (printed us values),
      unit_short values u proper.0 short,
      units_short values us proper.1 short,
    )

pub short_printed : (us : List PrintUnit) (values : List Datum) → AreProperUnits us → length us ≤ 4096 → are_short values ≡ true
    → length (printed us values) ≤ 2147483647
short_printed us values proper few short = omega (arith, units_short values us proper short)

-- ---- what is told where nothing is measured

fits : (n : ℕ) → n ≤ 2147483647 → length_or_fault None n ≡ Ok n
fits n h = ap (λ (b : Bool). cond b (Ok n) (Err fault.TooLong)) (le-leb n most_bytes h)

pub short_told : {A : Type 0} (r : Result A PrintFault) (m : Result ℕ PrintFault) (n : ℕ) → n ≤ 2147483647
    → MatchResult r (λ x. m ≡ length_or_fault None n) (λ f. m ≡ Err f) → MatchResult r (λ x. m ≡ Ok n) (λ f. m ≡ Err f)
short_told (Ok x) m n h told = told ∙ fits n h
short_told (Err f) m n h told = told

pub short_most : {A : Type 0} (r : Result A PrintFault) (n : ℕ) → n ≤ 2147483647 → OnOk r (n ≤ 2147483647)
short_most (Ok x) n h = h
short_most (Err f) n h = tt
