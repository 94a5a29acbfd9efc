use Rattle.std.proofs.Common.{◌≡◌, ◌+◌, ◌≤◌, ◌++◌, length, take, drop}
use Rattle.std.specs.Fmt.{digits}
use Rattle.sf_print.proofs.digits.numeral.write_digits.Given as goal

abbrev pub invariant-loop-left : goal.invariant-loop-left
invariant-loop-left l = record {
  room : length (digits l.base l.upper l.left) ≤ l.at;
  before_end : l.at ≤ l.end;
  start : l.at + length (digits l.base l.upper l.number) ≡ l.end + length (digits l.base l.upper l.left);
  written : digits l.base l.upper l.left ++ drop l.at l.buf ≡ digits l.base l.upper l.number ++ drop l.end l.fn.buf;
  before : take l.at l.buf ≡ take l.at l.fn.buf;
}

abbrev pub decreases-loop-left : goal.decreases-loop-left
decreases-loop-left l = l.left
