use Rattle.std.proofs.Common.{◌≡◌, ◌≤◌, ℕ, true}
use Rattle.sf_format.specs.Proper.{may_miss}
use Rattle.sf_read.proofs.shape.check_missing.Given as goal

-- the slots so far that may be missing may be so in the row
abbrev pub invariant-loop-before : goal.invariant-loop-before
invariant-loop-before g l = (slot : ℕ) → 1 ≤ slot → slot ≤ l.before → may_miss slot l.format ≡ true → g.T.Row.optional slot ≡ true
