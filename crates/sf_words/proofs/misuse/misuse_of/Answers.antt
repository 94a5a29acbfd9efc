use Rattle.std.proofs.Common.{rules}
use Rattle.sf_words.proofs.misuse.misuse_of.Goals as goal

pub returns-in-Some : goal.returns-in-Some
returns-in-Some c = search rules

pub returns-in-Scan : goal.returns-in-Scan
returns-in-Scan c = search rules

pub returns-in-Show : goal.returns-in-Show
returns-in-Show c = search rules
