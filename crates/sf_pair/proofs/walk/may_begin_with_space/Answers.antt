use Rattle.std.proofs.Common.{sym, ◌∙◌, arith}
use Rattle.sf_base.specs.Bytes.{is_white}
use Rattle.sf_pair.specs.conversions.Neighbours.{first_by}
use Rattle.sf_pair.proofs.ConversionLemmas.Meets.{meet_at, no_meet}
use Rattle.sf_pair.proofs.walk.may_begin_with_space.Goals as goal

pub returns-then-is_space : goal.returns-then-is_space
returns-then-is_space c = meet_at c.bytes_are_tried.ensures (first_by c.args.unit.now c.args.read.now) is_white c.loop-k.k
    (omega (arith, c.loop-k-test.true)) (sym c.may_begin.ensures ∙ c.if-may_begin.true) (sym c.is_space.ensures ∙ c.if-is_space.true)

pub returns : goal.returns
returns c = no_meet (first_by c.args.unit.now c.args.read.now) is_white c.loop-k.k
    (omega (arith, c.loop-k-test.false, c.loop-k.auto.k-end)) c.loop-k.invariant
