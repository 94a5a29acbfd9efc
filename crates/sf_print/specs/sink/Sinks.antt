-- What a sink took, and how often it failed.
use Rattle.std.specs.Prelude.{ℕ, List}
pub use Rattle.sf_base.specs.Counting.{counted_on}

-- a list of bytes that were taken, and the count of failures
pub record Listed : Type 0 where
  pub bytes : List ℕ
  pub failures : ℕ
