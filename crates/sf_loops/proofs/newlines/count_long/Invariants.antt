use Rattle.std.proofs.Common.{◌≡◌, ◌≤◌, length, take}
use Rattle.sf_read.specs.source.Counts.{lines_after}
use Rattle.sf_loops.proofs.newlines.count_long.Given as goal

-- what is left is there, and counted after the others it gives what all give
abbrev pub invariant-loop-left : goal.invariant-loop-left
invariant-loop-left l = (l.left ≤ length l.rest) × (lines_after l.lines (take l.left l.rest) ≡ lines_after l.fn.lines
    (take l.fn.count l.fn.bytes))

abbrev pub decreases-loop-left : goal.decreases-loop-left
decreases-loop-left l = l.left
