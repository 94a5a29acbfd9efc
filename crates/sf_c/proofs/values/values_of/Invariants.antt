use Rattle.std.proofs.Common.{◌≡◌, length, map, take}
use Rattle.sf_base.specs.Data.{datum_of}
use Rattle.sf_c.specs.Prints.{AreData}
use Rattle.sf_c.proofs.values.values_of.Given as goal

-- the values so far are those of the cells
abbrev pub invariant-loop-cell : goal.invariant-loop-cell
invariant-loop-cell l = record {
  values : AreData l.texts (map datum_of l.list.items) (take l.cell-index l.cells);
  count : length l.list.items ≡ l.cell-index;
}
