use Rattle.std.proofs.Common.{◌≡◌, ◌+◌}
use Rattle.sf_item.proofs.ColumnPieces.{HasTakenPart}
use Rattle.sf_item.proofs.column.ColumnScan.take_run.Given as goal

-- all bytes so far were taken
abbrev pub invariant-loop-b : goal.invariant-loop-b
invariant-loop-b l = record {
  count : l.taken.before + l.taken.text ≡ l.b-index;
  part : HasTakenPart l.fn.self l.self l.piece l.taken.before l.taken.text;
}
