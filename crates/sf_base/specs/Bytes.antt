-- Bytes and their classes in the C locale.
use Rattle.std.specs.Prelude.{◌≡◌, ℕ, ◌+◌, ◌*◌, ◌^◌, ◌≤◌, ◌<◌, Bool, true, false, not, ◌&&◌, ◌||◌, ◌==◌, nat_eq, nat_le, List, [], ◌∷◌}
use Rattle.std.specs.Prelude.{length, take}
use Rattle.std.specs.List.{AllByRecursion}
use Rattle.std.specs.Char.{digit_value}
use Rattle.sf_base.specs.Greatest.{IsGreatest}

-- a text: each number is a byte
abbrev pub AreBytes : List ℕ → Type 0
AreBytes bs = AllByRecursion (λ b. b < 256) bs

-- blank, tab, newline, vertical tab, form feed or carriage return (C11 7.4.1.10)
abbrev pub is_white : ℕ → Bool
is_white b = nat_eq b 32 || (nat_le 9 b && nat_le b 13)

abbrev pub AreWhite : List ℕ → Type 0
AreWhite bs = AllByRecursion (λ b. is_white b ≡ true) bs

-- another byte than this one
abbrev pub is_other : ℕ → ℕ → Bool
is_other end b = not (b == end)

-- no white space
abbrev pub is_ink : ℕ → Bool
is_ink b = not (is_white b)

-- a byte of a run: of white space, or else of bytes that are none
abbrev pub is_of_run : Bool → ℕ → Bool
is_of_run true b = is_white b
is_of_run false b = is_ink b

-- the longest front of x all of whose bytes pass the test has k bytes
abbrev pub IsLongestFront : (ℕ → Bool) → List ℕ → ℕ → Type 0
IsLongestFront test x k = IsGreatest (λ j. (j ≤ length x) × AllByRecursion (λ b. test b ≡ true) (take j x)) k

-- the longest front of x that is all white space has k bytes (C11 7.21.6.2p5, p8)
abbrev pub IsSkip : List ℕ → ℕ → Type 0
IsSkip x k = IsGreatest (λ j. (j ≤ length x) × AreWhite (take j x)) k

-- the sum of the digits' values, each times its power of the radix (C11 6.4.4.1p4)
abbrev pub magnitude : ℕ → List ℕ → ℕ
magnitude radix [] = 0
magnitude radix (d ∷ ds) = digit_value d * radix ^ length ds + magnitude radix ds
