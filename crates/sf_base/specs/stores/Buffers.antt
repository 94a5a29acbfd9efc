-- What a buffer holds.
use Rattle.std.specs.Prelude.{ℕ, List}

-- its bytes, and how many it can hold without more memory
pub record Held : Type 0 where
  pub bytes : List ℕ
  pub capacity : ℕ
