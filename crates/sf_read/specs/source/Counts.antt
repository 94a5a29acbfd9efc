-- What sources count.
use Rattle.std.specs.Prelude.{◌+◌, ◌-◌, ◌^◌, ◌==◌, ℕ, List, min}
use Rattle.std.specs.List.{count_by}
pub use Rattle.sf_base.specs.Counting.{counted_on}

-- how many newlines there are
abbrev pub newlines : List ℕ → ℕ
newlines bytes = count_by (λ b. b == 10) bytes

-- a count of newlines, and those of these bytes, up to the greatest number of 64 bits
abbrev pub lines_after : ℕ → List ℕ → ℕ
lines_after n bytes = min (n + newlines bytes) (2 ^ 64 - 1)

-- what a slice has left, and how many reads there were
pub record SliceState : Type 0 where
  pub to_come : List ℕ
  pub reads : ℕ
