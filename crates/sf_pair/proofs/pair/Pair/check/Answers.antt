use Rattle.std.proofs.Common.{◌≡◌, Option, Some, None, true, false, refl, sym, ap₂, ◌∙◌, true≢false}
use Rattle.sf_pair.specs.declared.fault.PairFault.{PairFault}
use Rattle.sf_pair.specs.Walk.{pair_fault}
use Rattle.sf_pair.proofs.Cutting.{aligned_is_accepted}
use Rattle.sf_pair.proofs.pair.Pair.check.Goals as goal

both_not : (o : Option PairFault) (f : PairFault) → o ≡ Some f → o ≡ None → false ≡ true
both_not o f e h = absurd cc

pub returns-in-Some-clause-aligned : goal.returns-in-Some-clause-aligned
returns-in-Some-clause-aligned c = (
  λ wrong. absurd (true≢false (sym wrong)),
  λ aligned. both_not (pair_fault c.args.print.now c.args.scan.now) c.in-Some.fault
      (sym (c.in-Some.ensures ∙ ap₂ pair_fault c.directives.ensures.value c.directives-2.ensures.value))
      ((aligned_is_accepted c.args.print.now c.args.scan.now).1 aligned),
)

pub returns-in-None-clause-aligned : goal.returns-in-None-clause-aligned
returns-in-None-clause-aligned c = (
  λ accepted. (aligned_is_accepted c.args.print.now c.args.scan.now).0
      (sym (c.in-None.ensures ∙ ap₂ pair_fault c.directives.ensures.value c.directives-2.ensures.value)),
  λ aligned. refl,
)
