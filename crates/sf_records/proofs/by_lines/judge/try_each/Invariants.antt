use Rattle.std.proofs.Common.{◌≡◌, take}
use Rattle.std.specs.List.{AllByRecursion}
use Rattle.sf_records.specs.by_lines.Turns.{Misses}
use Rattle.sf_records.proofs.by_lines.judge.try_each.Given as goal

-- the line matches none of those so far, and nothing was written
abbrev pub invariant-loop-before : goal.invariant-loop-before
invariant-loop-before g l = record {
  missed : AllByRecursion (Misses l.options l.line) (take l.before l.formats);
  same : g.M.Maker.work l.maker ≡ g.M.Maker.work l.fn.maker;
  sink : l.to ≡ l.fn.to;
}
