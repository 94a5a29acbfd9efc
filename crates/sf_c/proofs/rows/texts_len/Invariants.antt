use Rattle.std.proofs.Common.{◌≡◌, ◌≤◌, length}
use Rattle.sf_c.specs.Values.{texts_to}
use Rattle.sf_c.proofs.rows.texts_len.Given as goal

-- the texts of the slots so far are counted, and have room
abbrev pub invariant-loop-index : goal.invariant-loop-index
invariant-loop-index g l = record { len : l.len ≡ length (texts_to l.index l.report.values); few : l.len ≤ l.room }
