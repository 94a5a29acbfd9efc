-- A copy within whose text the sink failed.
use Rattle.std.proofs.Common.{◌≡◌, ◌<◌, ◌≤◌, ◌∙◌, ◌&&◌, ℕ, Bool, true, false, nat_le, List, length, Option, Result, Err, refl, sym, ap}
use Rattle.std.proofs.Common.{subst}
use Rattle.std.proofs.Common.{arith, true≢false}
use Rattle.std.specs.Prelude.{◌↔◌, IsErrOf}
use Rattle.std.proofs.lemmas.Bool.Decides.{nat_tests}
use Rattle.sf_base.specs.Data.{Datum}
use Rattle.sf_format.specs.declared.directive.Directive.{Directive}
use Rattle.sf_format.specs.declared.unit.Unit.{Unit as PrintUnit}
use Rattle.sf_forms.specs.Written.{TakesPart}
use Rattle.sf_forms.proofs.MakerLemmas.Faults.{front_is_part}
use Rattle.sf_forms.specs.makers.Works.{Writes}
use Rattle.sf_forms.specs.declared.makers.maker.Unwritten.{Unwritten}
use Rattle.sf_pair.specs.declared.fault.WriteFault.{WriteFault}
use Rattle.sf_pair.specs.declared.fault.WriteFault.TheVariants as write
use Rattle.sf_pair.specs.Fits.{Fit, FitsIsFit, fits}
use Rattle.sf_pair.specs.Writing.{WritesWhole}
use Rattle.sf_print.specs.declared.fault.PrintFault.{PrintFault}
use Rattle.sf_print.specs.declared.fault.PrintFault.TheVariants as print
use Rattle.sf_print.specs.Printed.{WritesText, most_bytes, printed}
use Rattle.sf_records.specs.Copies.{is_copied}

within : (a b : ℕ) → nat_le a b ≡ true → a ≤ b
within a b e = grind (arith, nat_tests)

beyond : (a b : ℕ) → nat_le a b ≡ false → b < a
beyond a b e = grind (arith, nat_tests)

abbrev failed_by : WriteFault → Result ℕ WriteFault
failed_by w = Err w

abbrev of_sink : Result ℕ WriteFault → Bool
of_sink (Err (write.Print (print.Sink n))) = true
of_sink _ = false

pub sink_part : (units : List PrintUnit) (ds : List Directive) (row : List Datum) (old new : Option (List ℕ)) (w : WriteFault)
    (f : PrintFault) (n : ℕ) → w ≡ write.Print f → f ≡ print.Sink n → FitsIsFit
    → IsErrOf (failed_by w) write.NotFitting ↔ (Fit units ds row → ⊥) → (P : Type 0)
    → (Fit units ds row → 2147483647 < length (printed units row) → (failed_by w ≡ Err (write.Print print.TooLong)) × P)
    → (Fit units ds row → length (printed units row) ≤ 2147483647 → WritesWhole old new (printed units row) (failed_by w))
    → (is_copied units ds row ≡ true) × TakesPart old new (printed units row)
sink_part units ds row old new w f n w_is f_is same unfit P long written = by (fits units ds row) refl
  where
    w_sink : w ≡ write.Print (print.Sink n)
    w_sink = w_is ∙ ap (λ (x : PrintFault). write.Print x) f_is

    other : {A : Type 0} (r : Result ℕ WriteFault) → of_sink r ≡ false → failed_by w ≡ r → A
    other r none e = absurd (true≢false (sym (ap (λ (x : WriteFault). of_sink (failed_by x)) w_sink) ∙ ap of_sink e ∙ none))

    long_or_not : fits units ds row ≡ true → (b : Bool) → nat_le (length (printed units row)) most_bytes ≡ b
        → (is_copied units ds row ≡ true) × TakesPart old new (printed units row)
    long_or_not e true l =
        let part : WritesText old new (printed units row) (Err (print.Sink n)) =
        subst (λ (x : WriteFault). WritesWhole old new (printed units row) (failed_by x)) w_sink
        (written ((same units ds row).0 e) (within (length (printed units row)) most_bytes l)) in
        (ap (λ b. b && nat_le (length (printed units row)) most_bytes) e ∙ l, front_is_part old new (printed units row) n part.0 part.1)
    long_or_not e false l =
        other (Err (write.Print print.TooLong)) refl
        ((long ((same units ds row).0 e) (beyond (length (printed units row)) most_bytes l)).0)

    by : (b : Bool) → fits units ds row ≡ b → (is_copied units ds row ≡ true) × TakesPart old new (printed units row)
    by true e = long_or_not e (nat_le (length (printed units row)) most_bytes) refl
    by false e = other (Err write.NotFitting) refl (unfit.1 (λ fit. true≢false (sym ((same units ds row).1 fit) ∙ e)))

most : (n : ℕ) → n ≤ most_bytes → nat_le n most_bytes ≡ true
most n h = grind (arith, nat_tests)

-- a text that a print of values that fit has is copied, where it is short enough
pub copied : (units : List PrintUnit) (ds : List Directive) (row : List Datum) (text : List ℕ) → text ≡ printed units row
    → length text ≤ most_bytes → FitsIsFit → Fit units ds row → is_copied units ds row ≡ true
copied units ds row text is short same fit =
    let few : nat_le (length (printed units row)) most_bytes ≡ true =
    ap (λ (t : List ℕ). nat_le (length t) most_bytes) (sym is) ∙ most (length text) short in
    (λ i. (same units ds row).1 fit i && few i)

both : (a b : Bool) → a && b ≡ true → (a ≡ true) × (b ≡ true)
both true b e = (refl, e)
both false b e = absurd (true≢false (sym e))

-- of values that are copied: they fit, and their text is short enough
pub copied_fit : (units : List PrintUnit) (ds : List Directive) (row : List Datum) → FitsIsFit → is_copied units ds row ≡ true
    → Fit units ds row
copied_fit units ds row same e = (same units ds row).0 ((both (fits units ds row) (nat_le (length (printed units row)) most_bytes) e).0)

pub copied_short : (units : List PrintUnit) (ds : List Directive) (row : List Datum) → is_copied units ds row ≡ true
    → length (printed units row) ≤ most_bytes
copied_short units ds row e =
    within (length (printed units row)) most_bytes ((both (fits units ds row) (nat_le (length (printed units row)) most_bytes) e).1)

-- a copy that was written in place, and handed to the sink
pub sent : (units : List PrintUnit) (ds : List Directive) (row : List Datum) (text : List ℕ) (old new : Option (List ℕ))
    (r : Result (Unit {0}) Unwritten) → text ≡ printed units row → length text ≤ most_bytes → FitsIsFit → Fit units ds row
    → Writes true text old new r → Writes (is_copied units ds row) (printed units row) old new r
sent units ds row text old new r is short same fit writes =
    subst (λ (b : Bool). Writes b (printed units row) old new r) (sym (copied units ds row text is short same fit))
    (subst (λ (t : List ℕ). Writes true t old new r) is writes)
