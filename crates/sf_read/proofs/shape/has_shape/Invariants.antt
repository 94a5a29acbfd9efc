use Rattle.std.proofs.Common.{◌≡◌, ◌≤◌, ℕ}
use Rattle.sf_format.specs.Proper.{kind_at}
use Rattle.sf_run.specs.Rows.{at_slot}
use Rattle.sf_read.proofs.shape.has_shape.Given as goal

-- the slots so far have the kinds of the destinations
abbrev pub invariant-loop-before : goal.invariant-loop-before
invariant-loop-before g l = (slot : ℕ) → 1 ≤ slot → slot ≤ l.before → at_slot slot g.T.Row.kinds ≡ kind_at slot l.format
