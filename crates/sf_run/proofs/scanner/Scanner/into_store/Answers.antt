use Rattle.std.proofs.Common.{rules}
use Rattle.sf_run.proofs.scanner.Scanner.into_store.Goals as goal

pub returns : goal.returns
returns c = search rules
