use Rattle.std.proofs.Common.{rules}
use Rattle.sf_print.proofs.texts.integer.mark_bytes.Goals as goal

pub returns-in-HexLower-clause-text : goal.returns-in-HexLower-clause-text
returns-in-HexLower-clause-text c = search rules

pub returns-in-HexUpper-clause-text : goal.returns-in-HexUpper-clause-text
returns-in-HexUpper-clause-text c = search rules

pub returns-in-Binary-clause-text : goal.returns-in-Binary-clause-text
returns-in-Binary-clause-text c = search rules
