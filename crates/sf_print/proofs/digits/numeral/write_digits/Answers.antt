use Rattle.std.proofs.Common.{◌≡◌, ◌≤◌, ◌+◌, ◌++◌, ◌-◌, ◌/◌, ◌%◌, ◌∷◌, [], List, length, take, drop, set, ℕ, arith, ap, sym, ◌∙◌}
use Rattle.std.proofs.Common.{append_assoc, take-take}
use Rattle.std.specs.Fmt.{digits, digit_glyph}
use Rattle.std.proofs.lemmas.List.{take-set, drop-set}
use Rattle.sf_print.proofs.DigitLemmas.Digits.{digits_one, digits_step, length_some, length_step}
use Rattle.sf_print.proofs.digits.numeral.write_digits.Goals as goal

pub overflow_sub-at : goal.overflow_sub-at
overflow_sub-at c = omega (
  arith,
  length_some c.args.base c.args.upper c.loop-left.left c.requires.base.0 c.requires.base.1
      c.loop-left.auto.left-fits.fits,
)

pub bounds-buf-at : goal.bounds-buf-at
bounds-buf-at c = omega (
  arith,
  length_some c.args.base c.args.upper c.loop-left.left c.requires.base.0 c.requires.base.1
      c.loop-left.auto.left-fits.fits,
  c.loop-left.auto.buf,
)

pub overflow_sub-at-2 : goal.overflow_sub-at-2
overflow_sub-at-2 c = omega (
  arith,
  length_some c.args.base c.args.upper c.loop-left.left c.requires.base.0 c.requires.base.1
      c.loop-left.auto.left-fits.fits,
)

pub bounds-buf-at-2 : goal.bounds-buf-at-2
bounds-buf-at-2 c = omega (
  arith,
  length_some c.args.base c.args.upper c.loop-left.left c.requires.base.0 c.requires.base.1
      c.loop-left.auto.left-fits.fits,
  c.loop-left.auto.buf,
)

-- one place lower, less of the front is told
shorter : (n m : ℕ) (xs ys : List ℕ) → m ≤ n → take n xs ≡ take n ys → take m xs ≡ take m ys
shorter n m xs ys h e = sym (take-take m n xs h) ∙ ap (take m) e ∙ take-take m n ys h

-- a byte written before the place from which the rest is told
written_before : (xs : List ℕ) (at g h : ℕ) → 1 ≤ at → at ≤ length xs → g ≡ h → drop (at - 1) (set xs (at - 1) g) ≡ h ∷ drop at xs
written_before xs at g h some there e =
    let next : at - 1 + 1 ≡ at = omega arith in
    drop-set xs (at - 1) g (omega arith) ∙ (λ t. e t ∷ drop (next t) xs)

pub loop-left-preserved : goal.loop-left-preserved
loop-left-preserved c =
    let l = c.loop-left in
    let some = length_some c.args.base c.args.upper l.left c.requires.base.0 c.requires.base.1 l.auto.left-fits.fits in
    let len = length_step c.args.base c.args.upper l.left c.requires.base.0 c.loop-left-test.true l.auto.left-fits.fits in
    let step = digits_step c.args.base c.args.upper l.left c.requires.base.0 c.loop-left-test.true l.auto.left-fits.fits in
    record {
      room = omega arith;
      before_end = omega arith;
      start = omega arith;
      written =
          ap (λ (t : List ℕ). digits c.args.base c.args.upper (l.left / c.args.base) ++ t)
          (written_before l.buf l.at _ _ (omega arith) (omega (arith, l.auto.buf)) c.glyph.ensures)
          ∙ sym (append_assoc (digits c.args.base c.args.upper (l.left / c.args.base))
          (digit_glyph c.args.upper (l.left % c.args.base) ∷ []) (drop l.at l.buf))
          ∙ ap (λ (t : List ℕ). t ++ drop l.at l.buf) (sym step)
          ∙ l.invariant.written;
      before = take-set _ _ _ ∙ shorter l.at (l.at - 1) l.buf c.args.buf.now (omega arith) l.invariant.before;
    }

pub returns-clause-start : goal.returns-clause-start
returns-clause-start c =
    let one = ap length (digits_one c.args.base c.args.upper c.loop-left.left c.requires.base.0 (omega arith)) in
    omega (arith, one, c.loop-left.invariant.start, c.loop-left.invariant.room)

pub returns-clause-written : goal.returns-clause-written
returns-clause-written c =
    let l = c.loop-left in
    let one = digits_one c.args.base c.args.upper c.loop-left.left c.requires.base.0 (omega arith) in
    let len = ap length one in
    written_before l.buf l.at _ _ (omega arith) (omega (arith, l.auto.buf)) c.glyph-2.ensures
    ∙ ap (λ (t : List ℕ). t ++ drop l.at l.buf) (sym one) ∙ l.invariant.written

pub returns-clause-before : goal.returns-clause-before
returns-clause-before c = take-set _ _ _ ∙ shorter c.loop-left.at (c.loop-left.at - 1) c.loop-left.buf c.args.buf.now
    (omega arith) c.loop-left.invariant.before
