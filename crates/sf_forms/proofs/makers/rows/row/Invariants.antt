use Rattle.std.proofs.Common.{◌≡◌, ◌≤◌, map}
use Rattle.arrayvec.specs.ArrayVec.{array_vec_len}
use Rattle.sf_base.specs.Data.{datum_of}
use Rattle.sf_forms.specs.makers.Row.{row_of}
use Rattle.sf_forms.proofs.makers.rows.row.Given as goal

-- the values of the slots so far
abbrev pub invariant-loop-before : goal.invariant-loop-before
invariant-loop-before g l = record {
  few : array_vec_len l.values ≤ l.before;
  are : map datum_of l.values.items ≡ row_of l.before l.report.values;
}
