use Rattle.std.proofs.Common.{length}
use Rattle.sf_format.proofs.Notings.{Noting}
use Rattle.sf_format.proofs.noted.number_fault.Given as goal

abbrev pub invariant-loop-rest : goal.invariant-loop-rest
invariant-loop-rest g l = Noting (g.G.Grammar.language l.grammar) l.text l.at l.rest l.before l.all.slots.count l.noted

abbrev pub decreases-loop-rest : goal.decreases-loop-rest
decreases-loop-rest g l = length l.rest
