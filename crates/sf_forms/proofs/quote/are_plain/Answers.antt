use Rattle.sf_forms.proofs.Short.{plain_by_run}
use Rattle.sf_forms.proofs.quote.are_plain.Goals as goal

pub returns : goal.returns
returns c = plain_by_run c.args.bytes.now c.plain_run.result c.plain_run.ensures.count
