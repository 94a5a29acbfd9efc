use Rattle.std.proofs.Common.{◌≡◌, ◌+◌, drop}
use Rattle.sf_format.specs.PrintRules.{foreign_flag}
use Rattle.sf_format.proofs.print.letter.foreign_flag.Given as goal

abbrev pub invariant-loop-i : goal.invariant-loop-i
invariant-loop-i l = foreign_flag l.letter l.from l.flags ≡ foreign_flag l.letter (l.from + l.i) (drop l.i l.flags)
