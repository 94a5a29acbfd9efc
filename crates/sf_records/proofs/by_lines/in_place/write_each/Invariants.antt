use Rattle.std.proofs.Common.{◌-◌, ◌≤◌, length, take}
use Rattle.sf_records.specs.by_lines.InPlace.{AreLineRecords}
use Rattle.sf_records.proofs.by_lines.in_place.write_each.Given as goal

-- so many lines are written, and the room has their records
abbrev pub invariant-loop-runs : goal.invariant-loop-runs
invariant-loop-runs l = record {
  place : l.runs.end ≤ length l.room;
  few : l.runs.lines ≤ l.most;
  within : l.runs.used ≤ length l.piece;
  runs : AreLineRecords l.form l.format l.options l.piece l.runs.lines l.runs.used (take l.runs.end l.room);
}

abbrev pub decreases-loop-runs : goal.decreases-loop-runs
decreases-loop-runs l = l.most - l.runs.lines
