-- Which matching sequences are texts that `parse` reads.
use Rattle.std.specs.Prelude.{◌≡◌, ℕ, Bool, true, false, ◌||◌, ◌==◌, List}
use Rattle.std.specs.List.{AllByRecursion}
use Rattle.std.specs.Float.Parse.{is_float_text}
use Rattle.sf_float_read.specs.item.Sequences.{IsFloat, IsDecimalFloat}

-- it is not the letter of a prefix, and opens no payload
abbrev pub is_plain : ℕ → Bool → Type 0
is_plain b answer = (b == 120 || (b == 88 || b == 40)) ≡ answer

-- a matching sequence that is neither hexadecimal nor has a payload is a float's text, so that `parse` gives the float nearest to it
abbrev pub PlainFloatsParse : Type 0
PlainFloatsParse = (f : List ℕ) → AllByRecursion (λ b. is_plain b false) f → IsFloat f → is_float_text f ≡ true

-- a matching sequence of a conversion with ! is one without
abbrev pub DecimalsAreFloats : Type 0
DecimalsAreFloats = (f : List ℕ) → IsDecimalFloat f → IsFloat f
