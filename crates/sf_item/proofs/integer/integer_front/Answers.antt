use Rattle.std.proofs.Common.{◌+◌, take, subst, arith, Some, None}
use Rattle.sf_item.specs.declared.reached.Reached.TheVariants.{Digits}
use Rattle.sf_item.specs.Progress.{Progress}
use Rattle.sf_item.specs.Scan.{Shows, ShowsNext}
use Rattle.sf_item.specs.Tests.{read}
use Rattle.sf_item.proofs.Readings.{bytes_read, length_rest}
use Rattle.sf_item.proofs.integer.integer_front.Goals as goal

module _ (c : goal.After-digit_front) where
  -- up to where digits were taken quickly
  quickly : (p : Progress) → Shows c.args.reached.now p
      → ShowsNext (Some (Digits c.quick_front.new.digits)) (read c.args.numeral (Some p)
      (take (c.opening-opened.result + c.quick_front.result) c.args.piece.now))
  quickly p shows =
      bytes_read c.args.numeral c.args.piece.now c.opening-opened.result p c.opening-opened.new.reached
      (Some (Digits c.quick_front.new.digits))
      (c.opening-opened.ensures.read p shows) c.quick_front.result
      (λ q digits. c.quick_front.ensures.read c.args.numeral q (subst (λ r. Shows r q) c.in-Digits.is digits))

pub returns-in-Digits-clause-read : goal.returns-in-Digits-clause-read
returns-in-Digits-clause-read c = λ p shows.
    bytes_read c.args.numeral c.args.piece.now (c.opening-opened.result + c.quick_front.result) p (Digits c.quick_front.new.digits)
    (Some (Digits c.digit_front.new.digits)) (quickly c p shows) c.digit_front.result (c.digit_front.ensures.read c.args.numeral)

pub returns-in-Digits-clause-stops : goal.returns-in-Digits-clause-stops
returns-in-Digits-clause-stops c = λ below p shows.
    let at = c.opening-opened.result + c.quick_front.result in
    let rest = length_rest c.args.piece.now at in
    subst (λ n. ShowsNext None (read c.args.numeral (Some p) (take n c.args.piece.now))) (omega arith)
    (bytes_read c.args.numeral c.args.piece.now at p (Digits c.quick_front.new.digits) None (quickly c p shows) (c.digit_front.result + 1)
    (c.digit_front.ensures.stops (omega (arith, below, rest)) c.args.numeral))
