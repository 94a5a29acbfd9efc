use Rattle.std.proofs.Common.{false, ◌≡◌, []}
use Rattle.sf_run.specs.Standing.{Follows, Keeps, turns_left, ran_out}
use Rattle.sf_run.specs.Scanner.{standing}
use Rattle.sf_run.proofs.scanner.Scanner.run_out.Given as goal

-- what is made of no more input is as it was
abbrev pub invariant-loop-self : goal.invariant-loop-self
invariant-loop-self g l = record {
  same : Follows (standing l.self) (standing l.fn.self) [] [];
  used : l.self.tally.used ≡ l.fn.self.tally.used;
  keeps : Keeps (standing l.self) (standing l.fn.self);
  memory : ran_out (standing l.self) ≡ false;
}

abbrev pub decreases-loop-self : goal.decreases-loop-self
decreases-loop-self g l = turns_left (standing l.self)
