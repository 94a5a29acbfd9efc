use Rattle.std.proofs.Common.{◌≡◌, take}
use Rattle.sf_item.specs.Scan.{ReadsDecimal}
use Rattle.sf_item.proofs.integer.decimal_front.Given as goal

-- the digits so far were taken
abbrev pub invariant-loop-i : goal.invariant-loop-i
invariant-loop-i l = record {
  read : ReadsDecimal l.fn.number (take l.i l.piece) l.value;
  nothing : l.i ≡ 0 → l.value ≡ l.fn.number;
}
