use Rattle.std.proofs.Common.{◌≡◌, ◌+◌, ◌++◌, ℕ, List, length, take}
use Rattle.sf_c.specs.declared.values.SfValue.{SfValue}
use Rattle.sf_c.specs.Values.{AreCells}
use Rattle.sf_c.proofs.lines.put_textless.Given as goal

-- the cells of the slots so far are written, and the cells before them are as they were
abbrev pub invariant-loop-index : goal.invariant-loop-index
invariant-loop-index l = record {
  front : take l.at l.values ≡ take l.at l.fn.values;
  row : (row : List SfValue) × (take (l.at + l.index) l.values ≡ take l.at l.fn.values ++ row) × (length row ≡ l.index)
      × ((texts : List ℕ) → AreCells texts l.format l.store.values 1 row);
}
