use Rattle.sf_item.proofs.EightHex.{Weighed}
use Rattle.sf_item.proofs.eight_hex.weighed.Given as goal

abbrev pub invariant-loop-i : goal.invariant-loop-i
invariant-loop-i l = Weighed l.piece l.count l.i l.number
