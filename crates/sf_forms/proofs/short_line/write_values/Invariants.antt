use Rattle.std.proofs.Common.{◌≡◌, ◌≤◌, ◌++◌, length, map, take}
use Rattle.std.specs.List.{join_with_byte, range_with_len}
use Rattle.sf_forms.specs.Columns.{after_head}
use Rattle.sf_forms.specs.Forms.{separator, slot_text}
use Rattle.sf_forms.proofs.Joining.{opened}
use Rattle.sf_forms.proofs.short_line.write_values.Given as goal

-- the texts of the slots so far, each after its head, joined, and with a separator after each
abbrev pub invariant-loop-before : goal.invariant-loop-before
invariant-loop-before g l = record {
  within : l.next ≤ length l.buf;
  low : l.end ≤ l.next;
  written : take l.end l.buf ≡ take l.at l.fn.buf
      ++ join_with_byte (separator l.form)
      (map (after_head (g.H.Heads.text l.heads) (slot_text l.form l.report)) (range_with_len 1 l.before));
  begun : take l.next l.buf ≡ take l.at l.fn.buf
      ++ opened (separator l.form) (after_head (g.H.Heads.text l.heads) (slot_text l.form l.report)) l.before;
}
