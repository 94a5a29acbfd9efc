use Rattle.std.proofs.Common.{◌≡◌, ◌+◌, ◌-◌, ◌≤◌, replicate}
use Rattle.sf_print.specs.Staged.{held}
use Rattle.sf_print.proofs.Staging.{PutsAll}
use Rattle.sf_print.proofs.handing.put_run.Given as goal

abbrev pub invariant-loop-stage : goal.invariant-loop-stage
invariant-loop-stage g l = record {
  within : l.left ≤ l.count;
  sound : g.K.Sink.failures l.to ≡ g.K.Sink.failures l.fn.to;
  text : PutsAll (g.K.Sink.contents l.fn.to) l.fn.stage.written (held l.fn.stage) (g.K.Sink.contents l.to) l.stage.written (held l.stage)
      (replicate (l.count - l.left) l.byte);
  count : l.stage.written + l.stage.len + l.left ≡ l.fn.stage.written + l.fn.stage.len + l.count;
}

abbrev pub decreases-loop-stage : goal.decreases-loop-stage
decreases-loop-stage g l = l.left + l.stage.len
