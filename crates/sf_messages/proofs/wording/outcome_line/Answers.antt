use Rattle.std.proofs.Common.{codes}
use Rattle.std.specs.Fmt.{decimal}
use Rattle.sf_run.specs.Wording.{status_text}
use Rattle.sf_messages.proofs.Lines.{four_numbers}
use Rattle.sf_messages.proofs.wording.outcome_line.Goals as goal

pub returns : goal.returns
returns c =
    let outcome = c.args.outcome in
    four_numbers c.joined.result.bytes (codes "sf: ") c.args.of.now (codes ": ") (status_text outcome.status) (codes " at ")
    (codes ", used ") (codes ", assigned ") (codes "\n")
    (decimal c.args.number) (decimal outcome.at) (decimal outcome.used) (decimal outcome.assigned)
    c.text-status.result.now c.format-place.result.now c.format-at.result.now c.format-used.result.now c.format-assigned.result.now
    c.joined.ensures c.text-status.ensures c.format-place.ensures.text c.format-at.ensures.text c.format-used.ensures.text
    c.format-assigned.ensures.text
