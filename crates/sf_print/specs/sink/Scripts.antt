-- What a script makes of the next write.
use Rattle.std.specs.Prelude.{ℕ, ◌-◌, ◌==◌, min, if◌then◌else◌, List, [], ◌∷◌, Option, Some, None}
use Rattle.sf_print.specs.declared.sink.script_sink.WriteStep.{WriteStep}
use Rattle.sf_print.specs.declared.sink.script_sink.WriteStep.TheVariants.{Accept, Fail}

-- how many of so many bytes the next write takes; none where it fails
abbrev pub allowed : ℕ → List WriteStep → Option ℕ
allowed len [] = Some len
allowed len (Accept n ∷ steps) = if n == 0 then allowed len steps else Some (min len n)
allowed len (Fail ∷ steps) = None

-- the script from its first step of which a byte is left, or which fails
abbrev pub ready : List WriteStep → List WriteStep
ready [] = []
ready (Accept n ∷ steps) = if n == 0 then ready steps else Accept n ∷ steps
ready (Fail ∷ steps) = Fail ∷ steps

-- what a write leaves of a ready script: a step has as many bytes less as were taken; a step that failed is over; where the growth was
-- refused, nothing is
abbrev pub left_by : Option ℕ → List WriteStep → List WriteStep
left_by (Some n) (Accept k ∷ steps) = ready (Accept (k - n) ∷ steps)
left_by None (Fail ∷ steps) = ready steps
left_by taken script = script

-- the bytes that were taken, the count of failures, and what is left of the script
pub record Scripted : Type 0 where
  pub bytes : List ℕ
  pub failures : ℕ
  pub script : List WriteStep
