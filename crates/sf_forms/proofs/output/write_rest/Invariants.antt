use Rattle.std.proofs.Common.{◌≡◌, ◌-◌, ◌≤◌, length, take}
use Rattle.std.specs.Io.KnownBytes.{Appends}
use Rattle.sf_forms.proofs.output.write_rest.Given as goal

-- so many bytes of the text were taken, and the sink has not failed
abbrev pub invariant-loop-done : goal.invariant-loop-done
invariant-loop-done g l = record {
  within : l.done ≤ length l.rest;
  sound : g.K.Sink.failures l.to ≡ g.K.Sink.failures l.fn.to;
  took : Appends (g.K.Sink.contents l.fn.to) (g.K.Sink.contents l.to) (take l.done l.rest);
}

abbrev pub decreases-loop-done : goal.decreases-loop-done
decreases-loop-done g l = length l.rest - l.done
