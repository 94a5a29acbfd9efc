use Rattle.std.proofs.Common.{ℕ, List, subst, rules}
use Rattle.sf_item.specs.Wholes.{DigitsOf}
use Rattle.sf_item.proofs.Zeros.{behind_zeros}
use Rattle.sf_item.proofs.whole.long_decimal.Goals.{else-count-eq-SURE_DECIMAL-via-then-count-eq-SURE_DECIMAL+else-is_digit_at}
use Rattle.sf_item.proofs.whole.long_decimal.Goals.{else-count-eq-SURE_DECIMAL-via-else-count-eq-SURE_DECIMAL}
use Rattle.sf_item.proofs.whole.long_decimal.Goals as goal

pub returns : goal.returns
returns c =
    let bytes : List ℕ = c.args.digits.now in
    let z : ℕ = c.zeros_before-zeros.result in
    let behind : List ℕ = c.split_at.result.1.now in
    let e = c.decimal_digits-number.ensures in
    let n : ℕ = c.decimal_digits-number.result.1 in
    let own : DigitsOf 10 behind n c.decimal_digits-number.result.0 = record {
      within = e.most;
      read = e.read;
      stops = λ below. elim c.else-count-eq-SURE_DECIMAL.branch [
        | else-count-eq-SURE_DECIMAL-via-then-count-eq-SURE_DECIMAL+else-is_digit_at w ↦ search (rules, below)
        | else-count-eq-SURE_DECIMAL-via-else-count-eq-SURE_DECIMAL w ↦ search (rules, below)
      ];
    } in
    behind_zeros bytes z n c.decimal_digits-number.result.0 c.zeros_before-zeros.ensures.within c.zeros_before-zeros.ensures.zeros
    (subst (λ y. DigitsOf 10 y n c.decimal_digits-number.result.0) c.split_at.ensures.back own)
