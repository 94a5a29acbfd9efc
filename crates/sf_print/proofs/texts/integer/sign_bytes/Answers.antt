use Rattle.std.proofs.Common.{rules}
use Rattle.sf_print.proofs.texts.integer.sign_bytes.Goals as goal

pub returns-then-conv-2-clause-text : goal.returns-then-conv-2-clause-text
returns-then-conv-2-clause-text c = search rules
