use Rattle.std.proofs.Common.{take}
use Rattle.std.specs.List.{AllByRecursion}
use Rattle.sf_records.specs.by_lines.Turns.{Misses, used_whole}
use Rattle.sf_records.proofs.by_lines.judge.is_ignored.Given as goal

-- none of those so far uses all of the line
abbrev pub invariant-loop-format : goal.invariant-loop-format
invariant-loop-format l = AllByRecursion (Misses (used_whole l.fn.options) l.line) (take l.format-index l.ignored)
