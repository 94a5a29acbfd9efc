use Rattle.std.proofs.Common.{map, string_bytes}
use Rattle.sf_arguments.specs.Arguments.{AllStand}
use Rattle.sf_arguments.proofs.print.find_lowest_fault.Given as goal

-- the words before stand for values
abbrev pub invariant-loop-at : goal.invariant-loop-at
invariant-loop-at l = AllStand l.how l.units (map string_bytes l.words) l.at
