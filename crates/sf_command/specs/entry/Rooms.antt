-- The room that a type takes.
use Rattle.std.specs.Prelude.{◌≡◌}
use prog.Memory.{align, size}
use denote.Param.{layout}
use denote.RattleType.{RattleType}

-- a value of the type takes as much room as a reference does
pub record TakesAWord (R : RattleType) : Type 0 where
  pub sized : size (layout R) ≡ 8
  pub aligned : align (layout R) ≡ 8
