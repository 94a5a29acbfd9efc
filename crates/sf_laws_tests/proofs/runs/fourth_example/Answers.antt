use Rattle.std.proofs.Common.{List, ℕ, codes, refl, subst, sym}
use Rattle.std.specs.Prelude.{IsSome}
use Rattle.sf_format.specs.declared.directive.Directive.{Directive}
use Rattle.sf_format.specs.Widths.{width_sum}
use Rattle.sf_report.specs.Limits.{RunWithin}
use Rattle.sf_run.specs.outcome.Ending.TheVariants.{End}
use Rattle.sf_laws_tests.proofs.runs.fourth_example.Goals as goal

pub returns : goal.returns
returns c = λ is.
    let bounded = subst (λ (ds : List Directive). IsSome (width_sum ds)) (sym is) refl in
    c.worked_examples.ensures.c11.fourth.counts.only c.in-Ok.scanned.report
    (subst (λ (ds : List Directive). RunWithin ds 2147483647 (codes "123") End c.in-Ok.scanned.report) is (c.in-Ok.ensures.bounded bounded))
