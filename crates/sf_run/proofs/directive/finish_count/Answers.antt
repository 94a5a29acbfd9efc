use Rattle.std.proofs.Common.{false, ap, ◌∙◌}
use Rattle.sf_base.specs.Data.{value_of}
use Rattle.sf_report.specs.Machine.{count_end}
use Rattle.sf_run.proofs.Stages.{count_is}
use Rattle.sf_run.proofs.directive.finish_count.Goals as goal

pub returns-clause-end : goal.returns-clause-end
returns-clause-end c text =
    let d = c.args.conversion.now in
    c.finish_number.ensures.end text (value_of d.kind false c.from.result) c.number_of.ensures
    ∙ count_is d d.slot c.from.result ∙ ap (count_end d d.slot) c.from.ensures
