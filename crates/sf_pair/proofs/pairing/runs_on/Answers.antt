use Rattle.std.proofs.Common.{inl, inr, sym, ◌∙◌, arith}
use Rattle.sf_pair.specs.conversions.Neighbours.{first_by, stop_set}
use Rattle.sf_pair.proofs.ConversionLemmas.Meets.{meet_at, no_meet, none_more}
use Rattle.sf_pair.proofs.pairing.runs_on.Goals.{else-may_begin-via-then-may_begin+else-goes_on, else-may_begin-via-else-may_begin}
use Rattle.sf_pair.proofs.pairing.runs_on.Goals as goal

pub loop-k-preserved : goal.loop-k-preserved
loop-k-preserved c = none_more (first_by c.args.follower.now c.args.next.now) (stop_set c.args.read.now c.args.conv.now) c.loop-k.k
    c.loop-k.invariant (elim c.else-may_begin.branch [
      | else-may_begin-via-then-may_begin+else-goes_on w ↦ inr (sym w.goes_on.ensures ∙ w.if-goes_on.false)
      | else-may_begin-via-else-may_begin w ↦ inl (sym c.may_begin.ensures ∙ w.if-may_begin.false)
    ])

pub returns-then-goes_on : goal.returns-then-goes_on
returns-then-goes_on c = meet_at c.bytes_are_tried.ensures (first_by c.args.follower.now c.args.next.now)
    (stop_set c.args.read.now c.args.conv.now) c.loop-k.k (omega (arith, c.loop-k-test.true))
    (sym c.may_begin.ensures ∙ c.if-may_begin.true) (sym c.goes_on.ensures ∙ c.if-goes_on.true)

pub returns : goal.returns
returns c = no_meet (first_by c.args.follower.now c.args.next.now) (stop_set c.args.read.now c.args.conv.now) c.loop-k.k
    (omega (arith, c.loop-k-test.false, c.loop-k.auto.k-end)) c.loop-k.invariant
