-- Decimal digits, and the numbers that they stand for.
use Rattle.std.specs.Prelude.{◌≡◌, ℕ, ◌<◌, ◌≤◌, Bool, true, ◌&&◌, nat_le, List, [], ◌∷◌, Option, Some, None}
use Prim.Native.Char.{code}
use Rattle.std.specs.List.{AllByRecursion}
use Rattle.sf_base.specs.Bytes.{magnitude}

-- 0 to 9
abbrev pub is_decimal : ℕ → Bool
is_decimal b = nat_le (code "0") b && nat_le b (code "9")

-- digits that aren't written, or that stand for a number from 1 to the limit; leading zeros are allowed
abbrev pub IsOptionalNumber : ℕ → List ℕ → Type 0
IsOptionalNumber limit [] = Unit {0}
IsOptionalNumber limit (d ∷ ds) =
    AllByRecursion (λ b. is_decimal b ≡ true) (d ∷ ds) × (0 < magnitude 10 (d ∷ ds)) × (magnitude 10 (d ∷ ds) ≤ limit)

abbrev pub optional_number : List ℕ → Option ℕ
optional_number [] = None
optional_number (d ∷ ds) = Some (magnitude 10 (d ∷ ds))
