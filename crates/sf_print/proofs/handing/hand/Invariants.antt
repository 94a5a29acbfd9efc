use Rattle.std.proofs.Common.{◌≡◌, ◌-◌, ◌≤◌, length, take}
use Rattle.std.specs.Io.KnownBytes.{Appends}
use Rattle.sf_print.proofs.handing.hand.Given as goal

abbrev pub invariant-loop-done : goal.invariant-loop-done
invariant-loop-done g l = record {
  within : l.done ≤ length l.piece;
  sound : g.K.Sink.failures l.to ≡ g.K.Sink.failures l.fn.to;
  took : Appends (g.K.Sink.contents l.fn.to) (g.K.Sink.contents l.to) (take l.done l.piece);
}

abbrev pub decreases-loop-done : goal.decreases-loop-done
decreases-loop-done g l = length l.piece - l.done
