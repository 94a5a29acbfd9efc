use Rattle.std.proofs.Common.{◌≡◌, ◌-◌, ◌/◌, ◌^◌, ◌≤◌, take, drop}
use Rattle.sf_float.specs.Texts.{fixed_digits}
use Rattle.sf_float.proofs.fewest.laid.put_last.Given as goal

-- the digits so far are the last ones, and the bytes before are as they were
abbrev pub invariant-loop-k : goal.invariant-loop-k
invariant-loop-k l = record {
  from : l.at ≤ l.k;
  to : l.k ≤ l.end;
  left : l.left ≡ l.n / 10 ^ (l.end - l.k);
  before : take l.at l.out ≡ take l.at l.fn.out;
  digits : take (l.end - l.k) (drop l.k l.out) ≡ fixed_digits (l.end - l.k) l.n;
}

abbrev pub decreases-loop-k : goal.decreases-loop-k
decreases-loop-k l = l.k
