use Rattle.std.proofs.Common.{◌≡◌, ◌≤◌, map, take}
use Rattle.sf_base.specs.Data.{datum_of_shown}
use Rattle.sf_forms.specs.makers.Row.{row_of}
use Rattle.sf_forms.proofs.makers.rows.shown_row.Given as goal

-- the values of the slots so far
abbrev pub invariant-loop-before : goal.invariant-loop-before
invariant-loop-before g l = record {
  few : l.count ≤ l.before;
  are : map datum_of_shown (take l.count l.places) ≡ row_of l.before l.report.values;
}
