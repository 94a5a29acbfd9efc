-- What is written of a float is read as that float.
use Rattle.std.specs.Prelude.{◌≡◌, ◌⊎◌, ℕ, ◌+◌, ◌-◌, ◌*◌, ◌≤◌, ◌<◌, ◌^◌, All, Some}
use Rattle.std.specs.Float.Ieee.{Float, nan, inf, fin, up, down}
use Rattle.std.specs.Float.Parse.{parse_float}
use Rattle.sf_base.specs.declared.real.Real as real
use Rattle.sf_float.specs.Computed.{count_of}
use Rattle.sf_float.specs.Scaled.{is_nonzero}
use Rattle.sf_base.specs.declared.real.Real.TheVariants as reals
use Rattle.sf_float.specs.fewest.Digits.{format_of, number_of, read_as, shortest}
use Rattle.sf_float.specs.fewest.Laid.{shortest_text}

-- its pattern has as many bits as the kind
abbrev pub IsPattern : real.Real → Type 0
IsPattern (reals.F32 bits) = bits < 2 ^ 32
IsPattern (reals.F64 bits) = bits < 2 ^ 64

-- the text is read as the float
abbrev pub ReadsBack : Type 0
ReadsBack = (r : real.Real) → IsPattern r → parse_float (format_of r) (shortest_text r) ≡ Some (number_of r)

-- so two floats have two texts
abbrev pub OneFloat : Type 0
OneFloat = (r s : real.Real) → IsPattern r → IsPattern s → format_of r ≡ format_of s → shortest_text r ≡ shortest_text s
    → number_of r ≡ number_of s

-- no decimal with fewer digits is read as it
abbrev pub NoneShorter : Type 0
NoneShorter = (r : real.Real) (n last : ℕ) → IsPattern r → is_nonzero (number_of r) → read_as r n last ≡ number_of r
    → count_of 0 (shortest r).0 ≤ count_of 0 n

abbrev pub distance : ℕ → ℕ → ℕ
distance n k = (n - k) + (k - n)

-- The size of x is no further from n * 10 ^ (last - 400) than from k * 10 ^ (q - 400). All three are over one denominator, which is
-- down e * 10 ^ (400 - last) * 10 ^ (400 - q).
abbrev pub IsNoFurther : Float → ℕ → ℕ → ℕ → ℕ → Type 0
IsNoFurther nan n last k q = ⊥
IsNoFurther (inf s) n last k q = ⊥
IsNoFurther (fin s m e) n last k q =
    let size = m * up e * 10 ^ (400 - last) * 10 ^ (400 - q) in
    distance size (n * (down e * 10 ^ (last - 400)) * 10 ^ (400 - q)) ≤ distance size (k * (down e * 10 ^ (q - 400)) * 10 ^ (400 - last))

-- no decimal with as many digits that is read as it is nearer to it
abbrev pub NoneNearer : Type 0
NoneNearer = (r : real.Real) (n last : ℕ) → IsPattern r → is_nonzero (number_of r) → read_as r n last ≡ number_of r
    → count_of 0 n ≤ count_of 0 (shortest r).0 → IsNoFurther (number_of r) (shortest r).0 (shortest r).1 n last

-- a digit, `-`, `.`, or a small letter
abbrev pub IsShort : ℕ → Type 0
IsShort b = (48 ≤ b) × (b ≤ 57) ⊎ (b ≡ 45) ⊎ (b ≡ 46) ⊎ (97 ≤ b) × (b ≤ 122)

abbrev pub HasShortBytes : Type 0
HasShortBytes = (r : real.Real) → All IsShort (shortest_text r)
