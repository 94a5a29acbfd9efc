use Rattle.std.proofs.Common.{drop}
use Rattle.sf_arguments.proofs.AnswerLemmas.ScanTexts.{GoesOn}
use Rattle.sf_arguments.proofs.answer.answer.text_for.Given as goal

abbrev pub invariant-loop-i : goal.invariant-loop-i
invariant-loop-i l = GoesOn l.numbered l.width l.units (drop l.i l.units) l.text.items
