-- A double that a pair writes and reads.
use Rattle.std.proofs.Common.{◌≡◌, ◌≤◌, ◌<◌, ◌++◌, ℕ, Bool, true, false, if◌then◌else◌, List, [], ◌∷◌, length, Option, Some, None}
use Rattle.std.proofs.Common.{Result, Ok, Err, inl, inr, refl, sym, ◌∙◌, arith, eq-zero-or-pos, true≢false, ◌-◌}
use Rattle.std.specs.Prelude.{is_err, is_ok}
use Rattle.std.specs.Option.{option_map}
use Rattle.sf_base.specs.Data.{Real, datum_at, datum_of}
use Rattle.sf_base.specs.declared.real.Real.TheVariants as reals
use Rattle.sf_base.specs.declared.values.Value.{Value}
use Rattle.sf_base.specs.declared.values.Value.TheVariants as values
use Rattle.sf_format.specs.declared.directive.Directive.{Directive}
use Rattle.sf_format.specs.declared.unit.Unit.{Unit as PrintUnit}
use Rattle.sf_pair.specs.Writing.{WritesWhole}
use Rattle.sf_pair.specs.declared.fault.WriteFault.{WriteFault}
use Rattle.sf_read.specs.Scan.{is_fault}
use Rattle.sf_read.specs.source.Ahead.{Ahead}
use Rattle.sf_run.specs.Rows.{AreRowOf}
use Rattle.sf_run.specs.Runs.{RunReport}
use Rattle.sf_run.specs.outcome.Ending.{Ending}
use Rattle.sf_pair_read.specs.Reading.{ReadsBackWhole}

-- what was written without an error
pub written : (text a b : List ℕ) (r : Result ℕ WriteFault) → is_err r ≡ false → WritesWhole (Some a) (Some b) text r → b ≡ a ++ text
written text a b (Ok n) ok wrote = wrote.0
written text a b (Err why) ok wrote = absurd cc

-- a source that counts no failure made none
no_fault : (met : Option Ending) → ◌≡◌ {A = ℕ} 0 (if is_fault met then 1 else 0) → is_fault met ≡ false
no_fault met e = by (is_fault met) e
  where
    by : (b : Bool) → ◌≡◌ {A = ℕ} 0 (if b then 1 else 0) → b ≡ false
    by true e = absurd cc
    by false e = refl

-- slot 1 has the double
pub slot_has : {S : Type 0} {to_come : S → Option (List ℕ)} {reads : S → ℕ} {N : ℕ} (us : List PrintUnit) (ds : List Directive) (bits : ℕ)
    (z : List ℕ) {old new : Ahead S} (report : RunReport) → ◌≡◌ {A = ℕ} 0 (if is_fault report.met then 1 else 0)
    → ReadsBackWhole to_come reads N us ds (Real (reals.F64 bits) ∷ []) z old new report
    → datum_at 1 report.values ≡ Some (Real (reals.F64 bits))
slot_has us ds bits z report fine back =
    let row : AreRowOf 1 (Real (reals.F64 bits) ∷ []) report.values = (back (inl (no_fault report.met fine))).row in cc

-- so it is the value
pub value_is : (o : Option Value) (bits : ℕ) → option_map datum_of o ≡ Some (Real (reals.F64 bits)) → o ≡ Some (values.F64 bits)
value_is None bits e = absurd cc
value_is (Some (values.I8 n)) bits e = absurd cc
value_is (Some (values.I16 n)) bits e = absurd cc
value_is (Some (values.I32 n)) bits e = absurd cc
value_is (Some (values.I64 n)) bits e = absurd cc
value_is (Some (values.U8 n)) bits e = absurd cc
value_is (Some (values.U16 n)) bits e = absurd cc
value_is (Some (values.U32 n)) bits e = absurd cc
value_is (Some (values.U64 n)) bits e = absurd cc
value_is (Some (values.Text t)) bits e = absurd cc
value_is (Some (values.F32 b)) bits e = absurd cc
value_is (Some (values.F64 b)) bits e = cc

-- a text of a value that fits and was written isn't too long
pub short_enough : {T : Type 0} (text : List ℕ) (r : Result T WriteFault) → is_err r ≡ false → (2147483647 < length text → is_err r ≡ true)
    → length text ≤ 2147483647
short_enough text r ok long = elim (eq-zero-or-pos (length text - 2147483647)) [
  | inl z ↦ omega (arith, z)
  | inr p ↦ absurd (true≢false (sym (long (omega (arith, p))) ∙ ok))
]

pub no_error : {A E : Type 0} (r : Result A E) → is_ok r ≡ true → is_err r ≡ false
no_error (Ok done) e = refl
no_error (Err why) e = absurd cc
