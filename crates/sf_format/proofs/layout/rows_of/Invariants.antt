use Rattle.std.proofs.Common.{◌≡◌, ◌≤◌, length, take, map}
use Rattle.std.specs.Prelude.{vec_capacity}
use Rattle.sf_format.specs.Layout.{row_of}
use Rattle.sf_format.proofs.layout.rows_of.Given as goal

abbrev pub invariant-loop-directive : goal.invariant-loop-directive
invariant-loop-directive l = record {
  are : l.rows.items ≡ map row_of (take l.directive-index l.directives);
  room : length l.directives ≤ vec_capacity l.rows;
}
