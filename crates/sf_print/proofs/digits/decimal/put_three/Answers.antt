use Rattle.std.proofs.Common.{◌++◌, [], ◌∷◌, drop, ◌+◌, List, ℕ, take, length, ap, ◌∙◌, refl, arith}
use Rattle.sf_print.specs.digits.Decimals.{three_digits}
use Rattle.sf_print.proofs.DigitLemmas.Copied.{part_written}
use Rattle.sf_print.proofs.digits.decimal.put_three.Goals as goal

pub copy_over-requires : goal.copy_over-requires
copy_over-requires c = omega (arith, ap length c.triple_of.ensures)

pub returns : goal.returns
returns c =
    part_written c.args.buf.now c.copy_over.new.buf (three_digits c.args.three) (48 ∷ [])
    (drop (c.args.at + length c.triple_of.result) c.args.buf.now) c.args.at 3 (omega arith) refl
    (c.copy_over.ensures
    ∙ ap (λ (t : List ℕ). take c.args.at c.args.buf.now ++ (t ++ drop (c.args.at + length c.triple_of.result) c.args.buf.now))
    c.triple_of.ensures)
