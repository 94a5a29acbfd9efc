use Rattle.std.proofs.Common.{List, sym, subst}
use Rattle.std.specs.Prelude.{IsSome}
use Rattle.sf_format.specs.declared.directive.Directive.{Directive}
use Rattle.sf_format.specs.Widths.{width_sum}
use Rattle.sf_run.specs.outcome.Ending.TheVariants.{End}
use Rattle.sf_report.specs.Limits.{RunTold, RunWithin}
use Rattle.sf_laws_tests.proofs.PairRuns.{back, bounded, nothing, some}
use Rattle.sf_laws_tests.proofs.pairs.read_back.Goals as goal

pub returns-clause-back : goal.returns-clause-back
returns-clause-back c = λ values z fit low is.
    back c.args.pair.now.print c.args.pair.now.scan c.scan-format.ensures.checked c.aligned_is_accepted.ensures
    c.read_within.ensures c.slots_agree.ensures values z c.args.text.now fit low is c.in-Ok.scanned.report
    (subst (λ (ds : List Directive). RunWithin ds 1000 c.args.text.now End c.in-Ok.scanned.report) c.scan-format.ensures.value
    (c.in-Ok.ensures.bounded (subst (λ (ds : List Directive). IsSome (width_sum ds)) (sym c.scan-format.ensures.value)
    (bounded c.args.pair.now.print c.args.pair.now.scan c.scan-format.ensures.checked c.aligned_is_accepted.ensures
    c.aligned_is_bounded.ensures))))

pub returns-clause-some : goal.returns-clause-some
returns-clause-some c = λ values z fit is. some c.args.pair.now.print c.args.pair.now.scan c.scan-format.ensures.checked
    c.aligned_is_accepted.ensures c.prints_some.ensures values z c.args.text.now fit is

pub returns-in_default-clause-some : goal.returns-in_default-clause-some
returns-in_default-clause-some c = λ values z fit is. some c.args.pair.now.print c.args.pair.now.scan c.scan-format.ensures.checked
    c.aligned_is_accepted.ensures c.prints_some.ensures values z c.args.text.now fit is

pub returns-clause-held : goal.returns-clause-held
returns-clause-held c =
    c.held_is_bounded.ensures c.args.pair.now.scan 1000 c.args.text.now End c.in-Ok.scanned.report
    (subst (λ (ds : List Directive). RunTold ds 1000 c.args.text.now End c.in-Ok.scanned.report) c.scan-format.ensures.value
    c.in-Ok.ensures.report)

pub returns-clause-end : goal.returns-clause-end
returns-clause-end c = λ is.
    nothing c.args.pair.now.print c.args.pair.now.scan c.scan-format.ensures.checked c.aligned_is_accepted.ensures
    c.ends_on_nothing.ensures c.one_report.ensures c.args.text.now is c.in-Ok.scanned.report
    (subst (λ (ds : List Directive). RunWithin ds 1000 c.args.text.now End c.in-Ok.scanned.report) c.scan-format.ensures.value
    (c.in-Ok.ensures.bounded (subst (λ (ds : List Directive). IsSome (width_sum ds)) (sym c.scan-format.ensures.value)
    (bounded c.args.pair.now.print c.args.pair.now.scan c.scan-format.ensures.checked c.aligned_is_accepted.ensures
    c.aligned_is_bounded.ensures))))
