use Rattle.std.proofs.Common.{◌≡◌, ◌≤◌, ℕ, length, take, Some, refl, sym, subst}
use Rattle.std.proofs.lemmas.List.Sums.{prefix_len-le-length}
use Rattle.std.specs.Char.{is_ascii_digit}
use Rattle.sf_float_read.specs.item.Tests.{read}
use Rattle.sf_float_read.proofs.ItemLemmas.DigitRuns.{read_digits}
use Rattle.sf_float_read.proofs.item.scan.FloatScan.digits_ahead.Goals as goal

pub returns-then-takes_digits-clause-within : goal.returns-then-takes_digits-clause-within
returns-then-takes_digits-clause-within c =
    subst (λ (n : ℕ). n ≤ length c.args.piece.now) (sym c.digit_run.ensures) (prefix_len-le-length is_ascii_digit c.args.piece.now)

pub returns-then-takes_digits-clause-stays : goal.returns-then-takes_digits-clause-stays
returns-then-takes_digits-clause-stays c =
    let r = c.args.self.now.reached in
    subst (λ (n : ℕ). read (Some r) (take n c.args.piece.now) ≡ Some r) (sym c.digit_run.ensures)
    (read_digits r (c.if-takes_digits.ensures refl) c.args.piece.now)
