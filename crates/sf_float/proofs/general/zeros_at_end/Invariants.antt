use Rattle.std.proofs.Common.{◌≡◌, ◌-◌, ◌*◌, ◌/◌, ◌^◌, ◌≤◌}
use Rattle.sf_float.proofs.general.zeros_at_end.Given as goal

abbrev pub invariant-loop-zeros : goal.invariant-loop-zeros
invariant-loop-zeros l = record { within : l.zeros ≤ l.decimals; cut : l.n ≡ l.n / 10 ^ l.zeros * 10 ^ l.zeros }

abbrev pub decreases-loop-zeros : goal.decreases-loop-zeros
decreases-loop-zeros l = l.decimals - l.zeros
