use Rattle.std.proofs.Common.{◌≤◌, ℕ, List, subst, sym, arith}
use Rattle.std.specs.Char.{digit_value}
use Rattle.sf_item.proofs.Zeros.{front_at, front_digits}
use Rattle.sf_item.proofs.whole.longer_decimal.Goals.{else-count-eq-SURE_DECIMAL-via-then-count-eq-SURE_DECIMAL+else-is_digit_at}
use Rattle.sf_item.proofs.whole.longer_decimal.Goals.{else-count-eq-SURE_DECIMAL-via-else-count-eq-SURE_DECIMAL}
use Rattle.sf_item.proofs.whole.longer_decimal.Goals as goal

pub returns-clause-digits : goal.returns-clause-digits
returns-clause-digits c =
    let digits : List ℕ = c.args.digits.now in
    let piece : List ℕ = c.args.piece.now in
    let n : ℕ = c.further_digits-number.result.1 in
    let e = c.further_digits-number.ensures in
    let few = e.few in
    front_digits 10 digits piece n c.further_digits-number.result.0 c.requires.front e.most e.read
    (λ below. elim c.else-count-eq-SURE_DECIMAL.branch [
      | else-count-eq-SURE_DECIMAL-via-then-count-eq-SURE_DECIMAL+else-is_digit_at w ↦ w.is_digit_at.ensures w.if-is_digit_at.false below
      | else-count-eq-SURE_DECIMAL-via-else-count-eq-SURE_DECIMAL w ↦
          subst (λ d. 10 ≤ digit_value d) (sym (front_at digits piece n c.requires.front below))
          (e.stops (omega (arith, few, w.if-count-eq-SURE_DECIMAL.false)) below)
    ])
