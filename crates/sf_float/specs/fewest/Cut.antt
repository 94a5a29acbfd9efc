-- What the code keeps of a float: 17 digits of twice its size, and whether anything follows them.
use Rattle.std.specs.Prelude.{◌≡◌, ℕ, ◌-◌, ◌*◌, ◌^◌, ◌<◌, ◌≤◌, Bool}
use Rattle.std.specs.Float.Ieee.{Float}
use Rattle.std.specs.Float.Ieee.Exact.{HasValue}
use Rattle.sf_float.specs.Quotient.{IsQuotient}
use Rattle.sf_float.specs.fewest.Digits.{first_power}

-- the size of x is a / c
pub record IsCut (x : Float) (first twice : ℕ) (lost : Bool) : Type 0 where
  pub negative : Bool
  pub a : ℕ
  pub c : ℕ
  pub some : 0 < c
  pub value : HasValue x negative a c
  pub quotient : IsQuotient (2 * (a * 10 ^ (416 - first))) (c * 10 ^ (first - 416)) twice lost
  pub first_is : first ≡ first_power x
  pub full : 2 * 10 ^ 16 ≤ twice
  pub fits : twice < 2 * 10 ^ 17
