use Rattle.std.proofs.Common.{◌≡◌, take, Some}
use Rattle.sf_item.specs.Progress.{Progress}
use Rattle.sf_item.specs.Scan.{Shows, ShowsNext}
use Rattle.sf_item.specs.Tests.{read}
use Rattle.sf_item.proofs.integer.opening.Given as goal

-- the bytes so far were read
abbrev pub invariant-loop-i : goal.invariant-loop-i
invariant-loop-i l = record {
  read : (p : Progress) → Shows l.fn.reached p → ShowsNext (Some l.reached) (read l.numeral (Some p) (take l.i l.piece));
  nothing : l.i ≡ 0 → l.reached ≡ l.fn.reached;
}
