use Rattle.std.proofs.Common.{◌-◌, ◌≡◌}
use Rattle.std.specs.Io.KnownBytes.{Keeps}
use Rattle.sf_print.specs.blocks.Blocks.{taken_by}
use Rattle.sf_print.proofs.blocks.block_sink.BlockSink.hand_on.Given as goal

abbrev pub invariant-loop-self : goal.invariant-loop-self
invariant-loop-self g l = record {
  contents : Keeps (taken_by l.fn.self) (taken_by l.self);
  block : l.self.block ≡ l.fn.self.block;
  failures : l.self.failures ≡ l.fn.self.failures;
  flushed : l.self.unflushed ≡ l.fn.self.unflushed;
  error : l.self.last_error ≡ l.fn.self.last_error;
}

abbrev pub decreases-loop-self : goal.decreases-loop-self
decreases-loop-self g l = l.self.end - l.self.start
