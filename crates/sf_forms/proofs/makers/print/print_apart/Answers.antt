use Rattle.std.proofs.Common.{Some, map, ap, ◌∙◌}
use Rattle.sf_base.specs.Data.{datum_of}
use Rattle.sf_forms.specs.makers.Prints.{printed_row}
use Rattle.sf_forms.proofs.MakerLemmas.Full.{full_written}
use Rattle.sf_forms.proofs.makers.print.print_apart.Goals as goal

pub returns-in-Some-clause-made : goal.returns-in-Some-clause-made
returns-in-Some-clause-made g c =
    let units = c.args.print.now in
    full_written units (map datum_of c.deref.result.now) (printed_row units c.args.destinations c.args.report.now.values)
    (ap (λ vs. map Some (map datum_of vs)) c.deref.ensures.0 ∙ c.in-Some.ensures.values) _ _ _ c.print_row.ensures.made

pub returns-in-Some-row-clause-made : goal.returns-in-Some-row-clause-made
returns-in-Some-row-clause-made g c =
    let units = c.args.print.now in
    full_written units (map datum_of c.deref-in-Some-row.result.now)
    (printed_row units c.args.destinations c.args.report.now.values)
    (ap (λ vs. map Some (map datum_of vs)) c.deref-in-Some-row.ensures.0 ∙ c.in-Some-row.ensures.values) _ _ _
    c.print_row-in-Some-row.ensures.made
