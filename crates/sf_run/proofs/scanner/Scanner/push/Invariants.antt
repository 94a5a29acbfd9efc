use Rattle.std.proofs.Common.{◌≡◌, ◌+◌, ◌-◌, ◌<◌, ◌≤◌, ℕ, List, ◌++◌, length, drop, None, true, false}
use Rattle.std.specs.Prelude.{IsSome}
use Rattle.sf_run.specs.Texts.{AreSound}
use Rattle.sf_run.specs.Standing.{Advances, Follows, Keeps, RefusesIn, ran_out, turns_left}
use Rattle.sf_run.specs.Scanner.{standing}
use Rattle.sf_run.proofs.scanner.Scanner.push.Given as goal

-- the bytes so far were taken, and where the run has stopped for want of memory, a byte of the piece was refused
abbrev pub invariant-loop-directive : goal.invariant-loop-directive
invariant-loop-directive g l = record {
  same : AreSound l.fn.self.directives.now → ran_out (standing l.self) ≡ false → (z : List ℕ)
      → Follows (standing l.self) (standing l.fn.self) (drop l.taken l.piece ++ z) (l.piece ++ z);
  memory : AreSound l.fn.self.directives.now → l.fn.self.ended ≡ None → ran_out (standing l.self) ≡ true
      → RefusesIn (standing l.self) (standing l.fn.self) l.piece;
  within : l.taken ≤ length l.piece;
  used : l.self.tally.used ≡ l.fn.self.tally.used + l.taken;
  stays : IsSome l.fn.self.ended → IsSome l.self.ended;
  nothing : IsSome l.fn.self.ended → l.taken ≡ 0;
  unchanged : IsSome l.fn.self.ended → l.self ≡ l.fn.self;
  keeps : Keeps (standing l.self) (standing l.fn.self);
  full : ran_out (standing l.fn.self) ≡ false → ran_out (standing l.self) ≡ true → (standing l.fn.self).room < length l.piece;
  comes : AreSound l.fn.self.directives.now → Advances (standing l.self) (standing l.fn.self) l.piece l.taken;
}

abbrev pub decreases-loop-directive : goal.decreases-loop-directive
decreases-loop-directive g l = (length l.piece - l.taken) + turns_left (standing l.self)
