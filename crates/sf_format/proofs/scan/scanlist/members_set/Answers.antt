use Rattle.std.proofs.Common.{arith}
use Rattle.sf_format.proofs.Scanlists.{one_more, range_more, forward_single, forward_range}
use Rattle.sf_format.proofs.scan.scanlist.members_set.Goals as goal

pub loop-rest-preserved-then-dash-eq45 : goal.loop-rest-preserved-then-dash-eq45
loop-rest-preserved-then-dash-eq45 c =
    let rest = c.loop-rest.rest.now in record {
      sized = c.insert_range.ensures.sized;
      members =
          range_more c.loop-rest.set c.insert_range.new.self rest c.args.members.now c.in-len3-up.len_at_least c.if-dash-eq45.true
          c.loop-rest.invariant.members c.insert_range.ensures.members;
      forward = forward_range rest c.in-len3-up.len_at_least c.if-dash-eq45.true c.loop-rest.invariant.forward;
    }

pub loop-rest-preserved : goal.loop-rest-preserved
loop-rest-preserved c =
    let rest = c.loop-rest.rest.now in record {
      sized = c.insert-else-dash-eq45.ensures.sized;
      members =
          one_more c.loop-rest.set c.insert-else-dash-eq45.new.self rest c.args.members.now (omega arith) (λ long. c.if-dash-eq45.false)
          c.loop-rest.invariant.members c.insert-else-dash-eq45.ensures.members;
      forward = forward_single rest (omega arith) (λ long. c.if-dash-eq45.false) c.loop-rest.invariant.forward;
    }
