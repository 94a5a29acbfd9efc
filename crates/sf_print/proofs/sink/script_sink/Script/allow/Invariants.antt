use Rattle.std.proofs.Common.{◌≡◌, ◌∷◌, length}
use Rattle.sf_print.specs.sink.Scripts.{allowed, ready}
use Rattle.sf_print.specs.declared.sink.script_sink.WriteStep.TheVariants.{Accept}
use Rattle.sf_print.proofs.sink.script_sink.Script.allow.Given as goal

abbrev pub invariant-steps : goal.invariant-steps
invariant-steps l = record {
  value : allowed l.len (Accept l.self.left ∷ l.self.steps.now) ≡ allowed l.len (Accept l.fn.self.left ∷ l.fn.self.steps.now);
  script : ready (Accept l.self.left ∷ l.self.steps.now) ≡ ready (Accept l.fn.self.left ∷ l.fn.self.steps.now);
}

abbrev pub decreases-steps : goal.decreases-steps
decreases-steps l = length l.self.steps.now
