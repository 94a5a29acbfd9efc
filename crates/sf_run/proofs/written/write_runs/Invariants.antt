use Rattle.std.proofs.Common.{◌-◌, ◌≤◌, length, take}
use Rattle.sf_run.specs.Written.{AreRecords}
use Rattle.sf_run.proofs.written.write_runs.Given as goal

-- so many runs have passed, and the room has their records
abbrev pub invariant-loop-runs : goal.invariant-loop-runs
invariant-loop-runs g l = record {
  place : l.runs.end ≤ length l.room;
  few : l.runs.records ≤ l.most;
  within : l.runs.used ≤ length l.piece;
  runs : AreRecords g.W.ValueWriter.whole l.format l.limit l.piece l.runs.records l.runs.used (take l.runs.end l.room);
}

abbrev pub decreases-loop-runs : goal.decreases-loop-runs
decreases-loop-runs g l = l.most - l.runs.records
