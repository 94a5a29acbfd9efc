use Rattle.std.proofs.Common.{◌≡◌, ◌-◌, ◌≤◌, ℕ, drop, length, take}
use Rattle.sf_base.specs.stores.Kept.{Kept}
use Rattle.sf_format.specs.Proper.{slots_of}
use Rattle.sf_run.specs.Texts.{slots_in}
use Rattle.sf_run.specs.Written.{texts_by}
use Rattle.sf_run.specs.Counting.{Counted}
use Rattle.sf_run.proofs.written.write_values.Given as goal

-- the directives before the rows that are left have passed, and the room has the texts of what they gave
abbrev pub invariant-loop-row : goal.invariant-loop-row
invariant-loop-row g l = record {
  short : length l.left ≤ length l.rows;
  ahead : l.left ≡ drop (length l.rows - length l.left) l.rows;
  place : l.end ≤ length l.room;
  low : length l.rest ≤ length l.front;
  counted : (capacity : ℕ) → (kept : Kept)
      × Counted l.directives l.front l.rest (length l.rows - length l.left) (record { assigned = 0; converted = 0 }) kept
      × (take l.end l.room ≡ texts_by g.W.ValueWriter.text kept.values) × (kept.room ≡ capacity)
      × (slots_in kept.values ≡ slots_of (take (length l.rows - length l.left) l.directives));
}

abbrev pub decreases-loop-row : goal.decreases-loop-row
decreases-loop-row g l = length l.left
