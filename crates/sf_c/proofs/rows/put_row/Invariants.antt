use Rattle.std.proofs.Common.{◌≡◌, ◌+◌, ◌++◌, List, length, take, drop}
use Rattle.sf_c.specs.declared.values.SfValue.{SfValue}
use Rattle.sf_c.specs.Scans.{slots_in}
use Rattle.sf_c.specs.Values.{AreCells, texts_to}
use Rattle.sf_c.proofs.rows.put_row.Given as goal

-- the cells and the texts of the slots so far are written, and what lies beyond those of all slots is as before
abbrev pub invariant-loop-index : goal.invariant-loop-index
invariant-loop-index g l = record {
  filled : l.filled ≡ l.from + length (texts_to l.index l.report.values);
  row : (row : List SfValue) × (take (l.at + l.index) l.values ≡ take l.at l.fn.values ++ row) × (length row ≡ l.index)
      × AreCells (take l.filled l.texts) l.format l.report.values 1 row;
  texts : take l.filled l.texts ≡ take l.from l.fn.texts ++ texts_to l.index l.report.values;
  beyond : drop (l.at + slots_in l.format) l.values ≡ drop (l.at + slots_in l.format) l.fn.values;
  behind : drop (l.from + length (texts_to (slots_in l.format) l.report.values)) l.texts
      ≡ drop (l.from + length (texts_to (slots_in l.format) l.report.values)) l.fn.texts;
}
