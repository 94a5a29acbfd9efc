use Rattle.std.proofs.Common.{◌≡◌, ap, ◌∙◌, sym}
use Rattle.sf_format.specs.Widths.{width_sum}
use Rattle.sf_messages.specs.shown.Shown.{show_text}
use Rattle.sf_command.proofs.jobs.command.show_by.Goals as goal

-- the sink failed within the lines
pub returns-clause-shows : goal.returns-clause-shows
returns-clause-shows g c profile text spelled =
    let ds = c.args.format.now in
    let told = c.in-Err.ensures.failed in
    let is : c.deref.result.now ≡ show_text ds (width_sum ds) = c.deref.ensures.value ∙ c.in_ok-lines.ensures
    ∙ ap (show_text ds) c.width_sum.ensures in
    (ds, spelled, (told.0, told.1, told.2, sym is ∙ told.3, told.4))
