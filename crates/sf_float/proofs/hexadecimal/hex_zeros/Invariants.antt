use Rattle.std.proofs.Common.{◌≡◌, ◌-◌, ◌*◌, ◌/◌, ◌^◌, ◌≤◌}
use Rattle.sf_float.proofs.hexadecimal.hex_zeros.Given as goal

abbrev pub invariant-loop-zeros : goal.invariant-loop-zeros
invariant-loop-zeros l = record { within : l.zeros ≤ 13; cut : l.m ≡ l.m / 16 ^ l.zeros * 16 ^ l.zeros }

abbrev pub decreases-loop-zeros : goal.decreases-loop-zeros
decreases-loop-zeros l = 13 - l.zeros
