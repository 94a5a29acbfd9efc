-- Doubles with 53 binary digits.
use Rattle.std.specs.Prelude.{ℕ, ◌+◌, ◌^◌, ◌<◌, ◌≤◌, Bool, from_bits}
use Rattle.std.specs.Float.Ieee.{Float, binary64}
use Rattle.std.specs.Float.Ieee.Exact.{HasValue}
use Rattle.sf_base.specs.declared.real.Real as real
use Rattle.sf_base.specs.declared.real.Real.TheVariants as reals

-- its size is m / 2 ^ down, where m has 53 binary digits and is not the greatest such number
pub record IsFull (x : Float) (m : ℕ) : Type 0 where
  pub negative : Bool
  pub down : ℕ
  pub value : HasValue x negative m (2 ^ down)
  pub least : 2 ^ 52 ≤ m
  pub most : m + 1 < 2 ^ 53
  pub few : down ≤ 1074

abbrev pub IsFullDouble : real.Real → ℕ → Type 0
IsFullDouble (reals.F32 bits) m = ⊥
IsFullDouble (reals.F64 bits) m = IsFull (from_bits binary64 bits) m
