use Rattle.std.proofs.Common.{◌||◌, ◌&&◌, ◌∙◌, Bool, min, nat_le, ap, refl, sym, arith}
use Rattle.std.proofs.lemmas.List.{length-set}
use Rattle.sf_base.proofs.Bits.{low_bits, word_has-range, word_has-others}
use Rattle.sf_base.proofs.Sets.{has_byte-marks_of, has_byte-held, length-marks_of}
use Rattle.sf_base.proofs.byte_set.ByteSet.insert_range.Goals as goal

pub loop-i-init : goal.loop-i-init
loop-i-init c = record {
  four = c.self.invariant.0;
  filled = λ k below. absurd (omega (arith, below));
  others = λ k behind. refl;
}

pub loop-i-preserved : goal.loop-i-preserved
loop-i-preserved c = record {
  four = length-set c.loop-i.words c.loop-i.i _ ∙ c.loop-i.invariant.four;
  filled = λ k below.
      (let upto = low_bits c.min-in-loop-i.result _ (c.min-in-loop-i.ensures ∙ ap (λ n. min n 64) c.saturating_sub-in-loop-i.ensures) in
      let under = low_bits c.min.result _ (c.min.ensures ∙ ap (λ n. min n 64) c.saturating_sub.ensures) in
      rw (upto, under)
      (word_has-range c.self.inside.words c.loop-i.words c.args.lo c.args.hi c.loop-i.i k
      (omega (arith, c.loop-i.invariant.four, c.loop-i-test.true))
      (c.loop-i.invariant.filled k) (c.loop-i.invariant.others k) below));
  others = λ k behind. word_has-others c.self.inside.words c.loop-i.words c.loop-i.i k _
      (c.loop-i.invariant.others k (omega (arith, behind))) behind;
}

pub invariant_of-self : goal.invariant_of-self
invariant_of-self c = (c.loop-i.invariant.four, tt)

pub returns-clause-members : goal.returns-clause-members
returns-clause-members c k below =
    has_byte-marks_of _ k below ∙ c.loop-i.invariant.filled k (omega (arith, below, c.loop-i-test.false))
    ∙ ap (λ (had : Bool). (nat_le c.args.lo k && nat_le k c.args.hi) || had)
    (sym (has_byte-held c.self.inside.words _ k c.self.view_is below))

pub returns-clause-sized : goal.returns-clause-sized
returns-clause-sized c = length-marks_of _
