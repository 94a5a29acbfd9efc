use Rattle.std.proofs.Common.{rules}
use Rattle.sf_run.proofs.directive.text_slot.Goals as goal

pub returns-in-Text : goal.returns-in-Text
returns-in-Text c = search rules
