use Rattle.sf_command.proofs.EntryLemmas.OneSaid.{one_is_said_holds}
use Rattle.sf_command.proofs.entry.laws.one_is_said.Goals as goal

pub returns : goal.returns
returns c = one_is_said_holds
