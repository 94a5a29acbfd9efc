use Rattle.std.proofs.Common.{◌≡◌, false, take}
use Rattle.std.specs.List.{list_any}
use Rattle.sf_pair.specs.conversions.Neighbours.{digits_in}
use Rattle.sf_pair.proofs.columns.holds_digit.Given as goal

abbrev pub invariant-loop-byte : goal.invariant-loop-byte
invariant-loop-byte l = list_any (digits_in l.base) (take l.byte-index l.text) ≡ false
