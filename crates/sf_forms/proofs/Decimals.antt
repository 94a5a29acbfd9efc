-- Numbers in decimal, and what they read as.
use Rattle.std.proofs.Common.{◌≡◌, ℕ, suc, ◌-◌, ◌^◌, ◌<◌, ◌≤◌, List, [], ◌∷◌, ℤ, pos, negsuc, neg_ℤ, ◌≤ℤ◌, ◌<ℤ◌, unsigned_abs, refl, ap}
use Rattle.std.proofs.Common.{◌∙◌, arith}
use Rattle.std.proofs.lemmas.Bool.{ne_eqb}
use Rattle.std.proofs.lemmas.Fmt.{decimal_is_IsNumeral}
use Rattle.std.proofs.lemmas.Str.Parse.{digit_at}
use Rattle.std.specs.Fmt.{decimal, signed_decimal}
use Rattle.std.specs.List.{AllByRecursion}
use Rattle.std.specs.Str.Parse.{AllDigits, digits_value, signed_digits_value}
use Rattle.sf_base.specs.declared.values.Kind.{Kind}
use Rattle.sf_base.specs.declared.values.Kind.TheVariants.{I8, I16, I32, I64, U8, U16, U32, U64, Text, F32, F64}
use Rattle.sf_base.specs.Data.{IsIn}
use lib.Dec.{leb→le, ltb→lt}

-- ---- how great the numbers of the kinds are

signed_bound : (m : ℕ) (z : ℤ) → neg_ℤ (pos (suc m)) ≤ℤ z → z <ℤ pos (suc m) → unsigned_abs z ≤ suc m
signed_bound m (pos n) low high = let h : n < suc m = ltb→lt n (suc m) high.lt in omega (arith, h)
signed_bound m (negsuc n) low high = let h : n ≤ m = leb→le n m low.le in omega (arith, h)

unsigned_bound : (m : ℕ) (z : ℤ) → pos 0 ≤ℤ z → z <ℤ pos m → unsigned_abs z < m
unsigned_bound m (pos n) low high = ltb→lt n m high.lt
unsigned_bound m (negsuc n) low high = absurd low.le

pub bounded : (kind : Kind) (z : ℤ) → IsIn kind z → unsigned_abs z < 2 ^ 64
bounded I8 z is = let h = signed_bound (2 ^ 7 - 1) z is.0 is.1 in omega (arith, h)
bounded I16 z is = let h = signed_bound (2 ^ 15 - 1) z is.0 is.1 in omega (arith, h)
bounded I32 z is = let h = signed_bound (2 ^ 31 - 1) z is.0 is.1 in omega (arith, h)
bounded I64 z is = let h = signed_bound (2 ^ 63 - 1) z is.0 is.1 in omega (arith, h)
bounded U8 z is = let h = unsigned_bound (2 ^ 8) z is.0 is.1 in omega (arith, h)
bounded U16 z is = let h = unsigned_bound (2 ^ 16) z is.0 is.1 in omega (arith, h)
bounded U32 z is = let h = unsigned_bound (2 ^ 32) z is.0 is.1 in omega (arith, h)
bounded U64 z is = unsigned_bound (2 ^ 64) z is.0 is.1
bounded Text z is = absurd is
bounded F32 z is = absurd is
bounded F64 z is = absurd is

-- ---- digits

-- a digit of base 10
abbrev pub IsDigit : ℕ → Type 0
IsDigit b = (48 ≤ b) × (b ≤ 57)

are_digits : (ds : List ℕ) → AllDigits 10 ds → AllByRecursion IsDigit ds
are_digits [] all = tt
are_digits (d ∷ ds) all = (digit_at (d ∷ ds) 0 all (omega arith), are_digits ds all.1)

pub digits_of_decimal : (n : ℕ) → n < 2 ^ 64 → AllByRecursion IsDigit (decimal n)
digits_of_decimal n few = are_digits (decimal n) (decimal_is_IsNumeral n few).0.1

-- without a sign, the number of its digits
no_sign : (ds : List ℕ) → AllByRecursion IsDigit ds → signed_digits_value 10 ds ≡ pos (digits_value 10 ds)
no_sign [] all = refl
no_sign (d ∷ ds) all =
    rw (ne_eqb d 45 (λ e. omega (arith, e, all.0.0)), ne_eqb d 43 (λ e. omega (arith, e, all.0.0))) refl

-- a number in decimal reads as the number
pub number_back : (z : ℤ) → unsigned_abs z < 2 ^ 64 → signed_digits_value 10 (signed_decimal z) ≡ z
number_back (pos n) few = no_sign (decimal n) (digits_of_decimal n few) ∙ ap (λ (k : ℕ). pos k) (decimal_is_IsNumeral n few).1
number_back (negsuc n) few = ap (λ (k : ℕ). neg_ℤ (pos k)) (decimal_is_IsNumeral (suc n) few).1

-- a minus or a digit
abbrev pub IsNumberByte : ℕ → Type 0
IsNumberByte b = (45 ≤ b) × (b ≤ 57)

weaker : (ds : List ℕ) → AllByRecursion IsDigit ds → AllByRecursion IsNumberByte ds
weaker [] all = tt
weaker (d ∷ ds) all = ((omega (arith, all.0.0), all.0.1), weaker ds all.1)

pub number_bytes : (z : ℤ) → unsigned_abs z < 2 ^ 64 → AllByRecursion IsNumberByte (signed_decimal z)
number_bytes (pos n) few = weaker (decimal n) (digits_of_decimal n few)
number_bytes (negsuc n) few = ((omega arith, omega arith), weaker (decimal (suc n)) (digits_of_decimal (suc n) few))
