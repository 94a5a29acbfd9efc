use Rattle.std.proofs.Common.{◌≡◌, ◌++◌, map, take, drop}
use Rattle.sf_format.specs.Layout.{row_of}
use Rattle.sf_format.proofs.layout.lay_out.Given as goal

abbrev pub invariant-loop-i : goal.invariant-loop-i
invariant-loop-i l = l.rows ≡ map row_of (take l.i l.directives) ++ drop l.i l.initial.rows
