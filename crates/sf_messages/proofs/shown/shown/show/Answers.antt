use Rattle.std.proofs.Common.{rules}
use Rattle.sf_messages.proofs.shown.shown.show.Goals as goal

pub returns : goal.returns
returns c = search rules
