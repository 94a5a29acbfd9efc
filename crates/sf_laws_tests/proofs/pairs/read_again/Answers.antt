use Rattle.std.proofs.Common.{List, sym, subst, ◌∙◌}
use Rattle.std.specs.Prelude.{IsSome}
use Rattle.sf_format.specs.declared.directive.Directive.{Directive}
use Rattle.sf_format.specs.Widths.{width_sum}
use Rattle.sf_run.specs.outcome.Ending.TheVariants.{End}
use Rattle.sf_report.specs.Limits.{RunWithin}
use Rattle.sf_laws_tests.proofs.PairRuns.{again, bounded}
use Rattle.sf_laws_tests.proofs.pairs.read_again.Goals as goal

pub returns : goal.returns
returns c = λ is low.
    again c.args.pair.now.print c.args.pair.now.scan c.scan-format.ensures.checked c.aligned_is_accepted.ensures
    c.round_trip.ensures c.one_report.ensures _ c.args.text.now ((c.fits_is_fit.ensures c.args.pair.now.print c.args.pair.now.scan _).0
    (sym c.fits.ensures.test ∙ c.if-not-fits.false)) is low c.in-Ok.scanned.report
    (subst (λ (ds : List Directive). RunWithin ds 1000 c.args.text.now End c.in-Ok.scanned.report) c.scan-format.ensures.value
    (c.in-Ok.ensures.bounded (subst (λ (ds : List Directive). IsSome (width_sum ds)) (sym c.scan-format.ensures.value)
    (bounded c.args.pair.now.print c.args.pair.now.scan c.scan-format.ensures.checked c.aligned_is_accepted.ensures
    c.aligned_is_bounded.ensures))))
