use Rattle.std.proofs.Common.{length}
use Rattle.sf_format.proofs.PartTexts.{Counting}
use Rattle.sf_format.proofs.part_text.part_text.Given as goal

abbrev pub invariant-loop-rest : goal.invariant-loop-rest
invariant-loop-rest g l = Counting (g.G.Grammar.language l.grammar) l.text l.at l.rest l.before l.number l.left

abbrev pub decreases-loop-rest : goal.decreases-loop-rest
decreases-loop-rest g l = length l.rest
