use Rattle.std.proofs.Common.{◌≡◌, ◌≤◌, map}
use Rattle.arrayvec.specs.ArrayVec.{array_vec_len}
use Rattle.std.specs.Option.{option_map}
use Rattle.sf_base.specs.Data.{datum_of}
use Rattle.sf_forms.specs.makers.Prints.{printed_row}
use Rattle.sf_forms.proofs.makers.print.given_row.Given as goal

-- what the slots so far have
abbrev pub invariant-loop-before : goal.invariant-loop-before
invariant-loop-before g l = record {
  few : array_vec_len l.given ≤ l.before;
  are : map (option_map datum_of) l.given.items ≡ printed_row l.print l.before l.report.values;
}
