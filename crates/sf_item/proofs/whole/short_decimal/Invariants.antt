use Rattle.std.proofs.Common.{◌<◌, ◌≤◌, ◌^◌, length, take}
use Rattle.sf_item.specs.Wholes.{ReadsIn}
use Rattle.sf_item.proofs.whole.short_decimal.Given as goal

-- the digits so far were taken, and any so many have such a number
abbrev pub invariant-loop-i : goal.invariant-loop-i
invariant-loop-i l = record {
  read : ReadsIn 10 0 (take l.i l.piece) l.number;
  small : l.number < 10 ^ l.i;
  within : l.i ≤ length l.digits;
}
