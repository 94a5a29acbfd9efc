use Rattle.std.proofs.Common.{◌≡◌, ◌≤◌, ◌-◌, ℕ, List, length}
use Rattle.sf_arguments.specs.Escapes.{Stands}
use Rattle.sf_arguments.proofs.escape.escapes_of.Given as goal

-- the bytes before stand for so many
abbrev pub invariant-loop-at : goal.invariant-loop-at
invariant-loop-at l = record {
  within : l.at ≤ length l.word;
  few : l.count ≤ l.at;
  read : (bytes : List ℕ) × Stands l.word l.at bytes × (l.count ≡ length bytes);
}

abbrev pub decreases-loop-at : goal.decreases-loop-at
decreases-loop-at l = length l.word - l.at
