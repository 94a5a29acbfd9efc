-- What a script gives.
use Rattle.std.specs.Prelude.{ℕ, List, [], ◌∷◌, ◌++◌, map, Option, Some, None}
use Rattle.std.specs.List.{filter_map}
use Rattle.sf_read.specs.declared.source.script_source.ReadStep.{ReadStep}
use Rattle.sf_read.specs.declared.source.script_source.ReadStep.TheVariants.{Give, Fail}

-- the bytes that a text gives
abbrev pub given : List ℕ → List (Option ℕ)
given text = map (λ b. Some b) text

-- the bytes that the steps give, and none where a read fails
abbrev pub events : List ReadStep → List (Option ℕ)
events [] = []
events (Give text ∷ steps) = given text.now ++ events steps
events (Fail ∷ steps) = None ∷ events steps

-- the bytes among them
abbrev pub bytes_of : List (Option ℕ) → List ℕ
bytes_of left = filter_map (λ event. event) left

-- what is left of the present text, what comes after it, and the counts
pub record ScriptState : Type 0 where
  pub present : List ℕ
  pub later : List (Option ℕ)
  pub reads : ℕ
  pub failures : ℕ

-- what a script still does
abbrev pub left_of : ScriptState → List (Option ℕ)
left_of s = given s.present ++ s.later
