use Rattle.std.proofs.Common.{◌≡◌, ℕ, ◌+◌, ◌≤◌, Bool, true, false, List, ◌++◌, length, take, replicate, refl, ap, ◌∙◌, arith, append_assoc}
use Rattle.std.proofs.Math.Seq.{take-append-add, take-append_seam}
use Rattle.std.specs.Fmt.{decimal}
use mir.Val.{bool_byte}
use Rattle.sf_print.specs.digits.Decimals.{minus}
use Rattle.sf_print.proofs.DigitLemmas.FourDigits.{length_at_most}
use Rattle.sf_print.proofs.digits.decimal.push_number.Goals as goal

at_most_one : (b : Bool) → bool_byte b ≤ 1
at_most_one true = omega arith
at_most_one false = omega arith

front_of_room : (negative : Bool) → take (bool_byte negative) (replicate 24 45) ≡ minus negative
front_of_room true = refl
front_of_room false = refl

behind_minus : (out before new digits : List ℕ) (negative : Bool) (start : ℕ) → start ≡ length out → before ≡ out ++ replicate 24 45
    → new ≡ take (start + bool_byte negative) before ++ digits → new ≡ out ++ (minus negative ++ digits)
behind_minus out before new digits negative start e room is =
    is ∙ (λ i. take (e i + bool_byte negative) (room i) ++ digits)
    ∙ ap (λ (t : List ℕ). t ++ digits) (take-append-add out (replicate 24 45) (bool_byte negative)
    ∙ ap (λ (t : List ℕ). out ++ t) (front_of_room negative))
    ∙ append_assoc out (minus negative) digits

-- what was written through a slice of all elements is what the list holds
written_back : (n end : ℕ) (buf rest : List ℕ) → n ≡ length buf → take end (take n (buf ++ rest)) ≡ take end buf
written_back n end buf rest e = ap (take end) (ap (λ (k : ℕ). take k (buf ++ rest)) e ∙ take-append_seam buf rest)

pub write_decimal-end-requires-clause-digits : goal.write_decimal-end-requires-clause-digits
write_decimal-end-requires-clause-digits c =
    omega (
      arith,
      at_most_one c.args.negative,
      length_at_most c.args.magnitude c.ranges.magnitude.fits,
      c.len.ensures,
      c.in_ok-extend_from_slice.ensures.len,
      c.deref_mut.ensures.len,
    )

pub write_decimal-end-requires-clause-room : goal.write_decimal-end-requires-clause-room
write_decimal-end-requires-clause-room c =
    omega (
      arith,
      at_most_one c.args.negative,
      c.len.ensures,
      c.in_ok-extend_from_slice.ensures.len,
      c.deref_mut.ensures.len,
    )

pub returns-clause-appended : goal.returns-clause-appended
returns-clause-appended c =
    c.truncate.ensures.items ∙ written_back _ c.write_decimal-end.result c.write_decimal-end.new.buf _
    (omega (arith, c.write_decimal-end.auto.buf, c.deref_mut.ensures.len))
    ∙ behind_minus c.args.output.now.items c.deref_mut.result.now _ (decimal c.args.magnitude) c.args.negative c.len.result
    (omega (arith, c.len.ensures, c.args.output.now.ok.0)) (c.deref_mut.ensures.value ∙ c.in_ok-extend_from_slice.ensures.items)
    c.write_decimal-end.ensures.written
