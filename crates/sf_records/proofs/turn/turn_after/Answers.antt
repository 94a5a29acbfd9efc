use Rattle.std.proofs.Common.{rules}
use Rattle.sf_records.proofs.turn.turn_after.Goals as goal

pub returns-in-Done-Some-Fault : goal.returns-in-Done-Some-Fault
returns-in-Done-Some-Fault c = search rules
