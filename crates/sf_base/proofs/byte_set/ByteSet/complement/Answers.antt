use Rattle.std.proofs.Common.{◌/◌, ◌<◌, not, arith, sym, ap, ◌∙◌}
use Rattle.sf_base.specs.Sets.{has_byte, word_has}
use Rattle.sf_base.proofs.Bits.{word_has-not}
use Rattle.sf_base.proofs.Sets.{has_byte-marks_of, has_byte-held, length-marks_of, LacksOnly-not}
use Rattle.sf_base.proofs.byte_set.ByteSet.complement.Goals as goal

pub returns-clause-members : goal.returns-clause-members
returns-clause-members c k below =
    let words = c.self.inside.words in
    let inside : k / 64 < c.loop-i.i = omega arith in
    has_byte-marks_of _ k below
    ∙ word_has-not words c.loop-i.self-inside.words k (c.loop-i.invariant.turned (k / 64) inside) (c.loop-i.invariant.fits (k / 64) inside)
    ∙ ap not (sym (has_byte-held words _ k c.self.view_is below))

pub returns-clause-sized : goal.returns-clause-sized
returns-clause-sized c = length-marks_of _

pub invariant_of-self : goal.invariant_of-self
invariant_of-self c = (
  c.loop-i.invariant.four,
  LacksOnly-not c.only_member-lacks.result (has_byte c.args.self.now) (word_has c.loop-i.self-inside.words) c.only_member-lacks.ensures
      (λ k below.
      (let words = c.self.inside.words in
      let inside : k / 64 < c.loop-i.i = omega arith in
      word_has-not words c.loop-i.self-inside.words k (c.loop-i.invariant.turned (k / 64) inside) (c.loop-i.invariant.fits (k / 64) inside)
      ∙ ap not (sym (has_byte-held words _ k c.self.view_is below)))),
)
