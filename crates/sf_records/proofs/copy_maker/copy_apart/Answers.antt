use Rattle.std.proofs.Common.{◌≡◌, ◌∙◌, List, ap, length, map, subst}
use Rattle.sf_base.specs.Data.{Datum, datum_of}
use Rattle.sf_format.specs.declared.directive.Directive.{Directive}
use Rattle.sf_format.specs.Proper.{destinations_of}
use Rattle.sf_print.specs.Printed.{printed}
use Rattle.sf_forms.specs.makers.Works.{Writes}
use Rattle.sf_records.specs.Copies.{is_copied, row_in, row_of}
use Rattle.sf_records.proofs.copy_maker.copy_apart.Goals as goal

pub returns-clause-made : goal.returns-clause-made
returns-clause-made g c =
    let pair = c.args.pair.now in
    let same : map datum_of c.deref.result.now ≡ row_in pair.scan c.args.report.now =
    ap (map datum_of) c.deref.ensures.0 ∙ c.row.ensures
    ∙ ap (λ n. row_of n c.args.report.now.values) (c.destinations-destinations.ensures.count
    ∙ ap (λ (ds : List Directive). length (destinations_of ds)) c.scan.ensures.value) in
    subst (λ (row : List Datum). Writes (is_copied pair.print pair.scan row) (printed pair.print row) (g.K.Sink.contents c.args.to.now)
    (g.K.Sink.contents c.copy_row.new.to) c.copy_row.result) same c.copy_row.ensures.made
