use Rattle.std.proofs.Common.{rules}
use Rattle.sf_records.proofs.end.ToolFault.status.Goals as goal

pub returns-in-Failed : goal.returns-in-Failed
returns-in-Failed c = search rules
