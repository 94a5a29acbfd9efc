use Rattle.std.proofs.Common.{◌≡◌, ℕ, ◌-◌, ◌≤◌, false, length, drop}
use Rattle.sf_float_read.specs.value.Hexadecimals.{IsFront, digits_read}
use Rattle.sf_float_read.proofs.value.digits.read_digits.Given as goal

abbrev pub invariant-loop-at : goal.invariant-loop-at
invariant-loop-at l =
    (l.at ≤ length l.text) × (l.digits.cut ≤ l.at) × (l.digits.places ≤ l.at)
    × ((value : ℕ) × IsFront value l.digits.m l.digits.cut l.digits.lost
    × (digits_read 0 0 false l.text ≡ digits_read value l.digits.places l.after (drop l.at l.text)))

abbrev pub decreases-loop-at : goal.decreases-loop-at
decreases-loop-at l = length l.text - l.at
