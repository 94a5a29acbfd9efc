-- Lists of bytes to which something was appended.
use Rattle.std.specs.Prelude.{◌≡◌, ◌≤◌, ℕ, List, length, take}

-- the list begins with what it was before
pub record IsGrown (old new : List ℕ) : Type 0 where
  pub longer : length old ≤ length new
  pub front : take (length old) new ≡ old
