use Rattle.std.proofs.Common.{◌≡◌, ◌+◌, ◌*◌, ◌-◌, ◌∙◌, sym, ap, arith, get_or}
use Rattle.sf_float.specs.Limbs.{value_below, limb_weight}
use Rattle.sf_float.proofs.Limbs.{limb_taken, upper_within, value_below-zero, limb_weight-zero}
use Rattle.sf_float.proofs.natural.Natural.as_u64.Goals as goal

pub returns-in_err-checked_mul-clause-answers : goal.returns-in_err-checked_mul-clause-answers
returns-in_err-checked_mul-clause-answers c fits =
    let l = c.loop-i in
    let taken = sym c.self.view_is ∙ l.invariant.1 ∙ limb_taken c.self.inside.limbs l.i l.number (omega (arith, c.loop-i-test.true)) in
    let within = upper_within _ _ _ (l.i - 1) taken in
    grind (arith, within, fits, c.checked_mul.ensures)

pub returns-in_err-number-clause-answers : goal.returns-in_err-number-clause-answers
returns-in_err-number-clause-answers c fits =
    let l = c.loop-i in
    let taken = sym c.self.view_is ∙ l.invariant.1 ∙ limb_taken c.self.inside.limbs l.i l.number (omega (arith, c.loop-i-test.true)) in
    let within = upper_within _ _ _ (l.i - 1) taken in
    grind (arith, within, fits, c.checked_mul.ensures, c.checked_add.ensures)

pub loop-i-preserved : goal.loop-i-preserved
loop-i-preserved c =
    let l = c.loop-i in
    let number : c.in_ok-number.number ≡ l.number * 1000000000 + get_or c.self.inside.limbs (l.i - 1) 0 =
    grind (arith, c.checked_mul.ensures, c.checked_add.ensures) in (
      omega (arith, l.invariant.0),
      l.invariant.1 ∙ limb_taken c.self.inside.limbs l.i l.number (omega (arith, c.loop-i-test.true))
          ∙ ap (λ n. value_below c.self.inside.limbs (l.i - 1) + n * limb_weight (l.i - 1)) (sym number),
    )

pub returns-clause-value : goal.returns-clause-value
returns-clause-value c =
    let e : c.loop-i.i ≡ 0 = omega (arith, c.loop-i-test.false) in
    omega (arith, c.self.view_is, rw (e, value_below-zero, limb_weight-zero) at c.loop-i.invariant.1)
