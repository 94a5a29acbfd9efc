use Rattle.std.proofs.Common.{rules}
use Rattle.sf_records.proofs.turn.Turn.writes.Goals as goal

pub returns-in-Goes : goal.returns-in-Goes
returns-in-Goes c = search rules
