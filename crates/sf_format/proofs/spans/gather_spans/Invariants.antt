use Rattle.std.proofs.Common.{length}
use Rattle.sf_format.proofs.SpanTexts.{Spanning}
use Rattle.sf_format.proofs.spans.gather_spans.Given as goal

abbrev pub invariant-loop-rest : goal.invariant-loop-rest
invariant-loop-rest g l = Spanning (g.G.Grammar.language l.grammar) l.text l.at l.rest l.before l.spans.items

abbrev pub decreases-loop-rest : goal.decreases-loop-rest
decreases-loop-rest g l = length l.rest
