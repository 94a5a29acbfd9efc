use Rattle.std.proofs.Common.{ℕ, ◌+◌, ◌-◌, ◌*◌, take, get_or, subst, sym, arith}
use Rattle.std.specs.Str.Parse.{digits_value}
use Rattle.sf_float_read.specs.value.Hexadecimals.{IsCapped}
use Rattle.sf_float_read.proofs.ValueLemmas.Fronts.{digit_at, digit_from, digit_below, counted, full, value_more}
use Rattle.sf_float_read.proofs.value.digits.capped.Goals as goal
use Rattle.sf_float_read.proofs.value.digits.capped.Goals.{then-number, else-number}

pub overflow_sub-number : goal.overflow_sub-number
overflow_sub-number c = digit_from _ (digit_at c.args.text.now c.loop-b.b-index c.requires c.loop-b-test.true)

pub loop-b-preserved : goal.loop-b-preserved
loop-b-preserved c =
    let t = c.args.text.now in
    let i = c.loop-b.b-index in
    let b = get_or t i 0 in
    let d = digit_at t i c.requires c.loop-b-test.true in
    subst (λ (v : ℕ). IsCapped v c.if-number.number) (value_more t i c.requires c.loop-b-test.true)
    (elim c.if-number.branch [
      | then-number w ↦ subst (λ (r : ℕ). IsCapped (digits_value 10 (take i t) * 10 + (b - 48)) r) (sym w.number-is)
          (counted (digits_value 10 (take i t)) c.loop-b.number (b - 48)
          (omega (arith, digit_below b d)) w.if-number.true c.loop-b.invariant)
      | else-number w ↦ subst (λ (r : ℕ). IsCapped (digits_value 10 (take i t) * 10 + (b - 48)) r) (sym w.number-is)
          (full (digits_value 10 (take i t)) c.loop-b.number (b - 48) w.if-number.false c.loop-b.invariant)
    ])
