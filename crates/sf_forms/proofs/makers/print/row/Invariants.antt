use Rattle.std.proofs.Common.{◌≡◌, ◌≤◌, Some, map}
use Rattle.arrayvec.specs.ArrayVec.{array_vec_len}
use Rattle.sf_base.specs.Data.{datum_of}
use Rattle.sf_forms.specs.makers.Prints.{printed_row}
use Rattle.sf_forms.proofs.makers.print.row.Given as goal

-- the values of the slots so far, of which none is missing
abbrev pub invariant-loop-before : goal.invariant-loop-before
invariant-loop-before g l = record {
  few : array_vec_len l.values ≤ l.before;
  are : map Some (map datum_of l.values.items) ≡ printed_row l.print l.before l.report.values;
}
