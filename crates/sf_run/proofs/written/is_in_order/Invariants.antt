use Rattle.std.proofs.Common.{◌≡◌, ◌-◌, ◌≤◌, map, take}
use Rattle.sf_format.specs.Layout.{row_of}
use Rattle.sf_format.specs.Proper.{slots_of}
use Rattle.sf_format.specs.Slots.{slots_from}
use Rattle.sf_run.proofs.written.is_in_order.Given as goal

-- the slots of the directives so far are the first ones
abbrev pub invariant-loop-row : goal.invariant-loop-row
invariant-loop-row l = record {
  rows : l.row-items ≡ map row_of l.format;
  some : 1 ≤ l.next;
  slots : slots_of (take l.row-index l.format) ≡ slots_from 1 (l.next - 1);
}
