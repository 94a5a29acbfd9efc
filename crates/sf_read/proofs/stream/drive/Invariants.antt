use Rattle.std.proofs.Common.{◌≡◌, ℕ, List, Some, ◌+◌, ◌-◌, ◌≤◌, length, take, cond}
use Rattle.sf_run.specs.Standing.{used_by}
use Rattle.sf_run.specs.Memory.{capacity_of}
use Rattle.sf_run.specs.Scanner.{kept_by, standing}
use Rattle.sf_read.specs.source.Ahead.{input_of}
use Rattle.sf_read.specs.source.Counts.{lines_after}
use Rattle.sf_read.specs.Reading.{Reading}
use Rattle.sf_read.proofs.stream.drive.Given as goal

abbrev pub invariant-refills : goal.invariant-refills
invariant-refills g l =
    Reading g.S.Source.to_come g.S.Source.reads g.S.Source.failures g.row.N (standing l.fn.scanner).directives
    (standing l.fn.scanner).limit l.fn.from l.from (standing l.scanner)
    × (capacity_of (kept_by l.fn.scanner) ≤ capacity_of (kept_by l.scanner))
    × ((t : List ℕ) → input_of g.S.Source.to_come l.fn.from ≡ Some t
    → l.lines ≡ lines_after l.fn.lines (take (used_by (standing l.scanner)) t))

-- the bytes that may still be used and are not held yet, and one where the source has not told its end
abbrev pub decreases-refills : goal.decreases-refills
decreases-refills g l = (standing l.fn.scanner).limit + 1 - (used_by (standing l.scanner) + length l.from.held) + cond l.from.at_end 0 1
