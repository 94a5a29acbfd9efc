use Rattle.std.proofs.Common.{◌/◌, ◌%◌, ◌==◌, ℕ, get_or, arith, ap, sym, ◌∙◌}
use Rattle.std.proofs.lemmas.Nat.Bits.{shr_and_one}
use Rattle.sf_base.proofs.Sets.{has_byte-held}
use Rattle.sf_base.proofs.byte_set.ByteSet.contains.Goals as goal

pub returns : goal.returns
returns c =
    let words = c.self.inside.words in
    let b = c.args.b in
    ap (λ (bit : ℕ). bit == 1) (shr_and_one (get_or words (b / 64) 0) (b % 64))
    ∙ sym (has_byte-held words c.args.self.now b c.self.view_is (omega (arith, c.ranges.b.fits)))
