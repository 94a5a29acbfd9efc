use Rattle.std.proofs.Common.{◌≡◌, ℕ, ◌+◌, ◌<◌, ◌≤◌, Bool, true, false, List, ◌++◌, length, take, set, refl, sym, ap, ◌∙◌, arith}
use Rattle.std.proofs.Common.{length-append, length-set}
use Rattle.std.proofs.lemmas.List.{take_more_set, take-set, append-nil}
use Rattle.std.specs.Fmt.{decimal}
use mir.Val.{bool_byte}
use Rattle.sf_print.specs.digits.Decimals.{minus}
use Rattle.sf_print.proofs.DigitLemmas.FourDigits.{length_at_most, behind}
use Rattle.sf_print.proofs.digits.decimal.write_number.Goals as goal

at_most_one : (b : Bool) → bool_byte b ≤ 1
at_most_one true = omega arith
at_most_one false = omega arith

length_minus : (b : Bool) → length (minus b) ≡ bool_byte b
length_minus true = refl
length_minus false = refl

minus_set : (negative : Bool) (buf : List ℕ) (at : ℕ) → at < length buf
    → take (at + bool_byte negative) (set buf at 45) ≡ take at buf ++ minus negative
minus_set true buf at within = take_more_set buf at 45 within
minus_set false buf at within =
    let none : at + 0 ≡ at = omega arith in
    ap (λ (k : ℕ). take k (set buf at 45)) none ∙ take-set buf at 45 ∙ sym (append-nil (take at buf))

pub write_decimal-requires-clause-digits : goal.write_decimal-requires-clause-digits
write_decimal-requires-clause-digits c = omega (
  arith,
  at_most_one c.args.negative,
  length_at_most c.args.magnitude c.ranges.magnitude.fits,
  length-set c.args.buf.now c.args.at 45,
)

pub write_decimal-requires-clause-room : goal.write_decimal-requires-clause-room
write_decimal-requires-clause-room c = omega (arith, at_most_one c.args.negative, length-set c.args.buf.now c.args.at 45)

pub returns-clause-end : goal.returns-clause-end
returns-clause-end c = omega (arith, length-append (minus c.args.negative) (decimal c.args.magnitude), length_minus c.args.negative)

pub returns-clause-most : goal.returns-clause-most
returns-clause-most c = omega (arith, at_most_one c.args.negative, length_at_most c.args.magnitude c.ranges.magnitude.fits)

pub returns-clause-written : goal.returns-clause-written
returns-clause-written c = behind _ _ _ _ _ _ c.write_decimal.ensures.written
    (minus_set c.args.negative c.args.buf.now c.args.at (omega arith)) refl
