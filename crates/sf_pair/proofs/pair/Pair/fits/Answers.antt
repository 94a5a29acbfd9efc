use Rattle.std.proofs.Common.{map, ap₂, ◌∙◌}
use Rattle.std.proofs.lemmas.List.{length-map}
use Rattle.sf_base.specs.Data.{datum_of}
use Rattle.sf_pair.specs.Fits.{all_fit, conversions, assigned_conversions}
use Rattle.sf_pair.proofs.FitTests.{fits_when}
use Rattle.sf_pair.proofs.pair.Pair.fits.Goals as goal

pub returns-then-values-count-clause-fits : goal.returns-then-values-count-clause-fits
returns-then-values-count-clause-fits c =
    let values = map datum_of c.args.values.now in
    fits_when c.laws_below.ensures c.self.inside.print.now c.self.inside.scan.now c.args.self.now values c.all_fit.result c.self.view_is
    (length-map c.args.values.now datum_of ∙ c.if-values-count.true ∙ c.values-count.ensures.count)
    (c.all_fit.ensures ∙ ap₂ (λ us ds. all_fit values (conversions us) (assigned_conversions ds)) c.directives.ensures.value
    c.directives-then-values-count.ensures.value)
