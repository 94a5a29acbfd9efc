-- Texts of floats: which bytes they have, and that they are numbers where the floats are finite.
use Rattle.std.proofs.Common.{◌≡◌, ◌⊎◌, inl, inr, ℕ, zero, suc, ◌+◌, ◌-◌, ◌*◌, ◌/◌, ◌%◌, ◌^◌, ◌<◌, ◌≤◌, ◌||◌, Bool, true, false, cond}
use Rattle.std.proofs.Common.{List, [], ◌∷◌, ◌++◌, length, nat_eq, nat_lt, refl, sym, subst, arith, true≢false}
use Rattle.std.specs.Prelude.{codes, max}
use Rattle.std.proofs.lemmas.Bool.{lt-ltb, ltb-true}
use Rattle.std.proofs.lemmas.List.{length-append}
use Rattle.std.specs.Float.{float_is_finite, is_sign_negative}
use Rattle.std.specs.Float.Ieee.{Float, nan, inf, fin}
use Rattle.std.specs.Fmt.{sign_text}
use Rattle.std.specs.List.{AllByRecursion}
use Rattle.sf_base.specs.Bytes.{AreBytes}
use Rattle.sf_base.specs.declared.real.Real as real
use Rattle.sf_float.specs.Computed.{count_of, first_passing}
use Rattle.sf_float.specs.Texts.{exponent_size, fixed_digits, fixed_text, point_text}
use Rattle.sf_format.proofs.Rules.{all_append, all_map}
use Rattle.sf_float.specs.fewest.Digits.{number_of, shortest}
use Rattle.sf_float.specs.fewest.Laid.{is_plain, laid_out, plain_text, raised_text, shortest_text, size_text}
use Rattle.sf_forms.specs.Reals.{is_finite}
use Rattle.sf_forms.proofs.Decimals.{IsDigit, IsNumberByte}

-- ---- digits

abbrev pub HasDigits : List ℕ → Type 0
HasDigits ds = (0 < length ds) × AllByRecursion IsDigit ds

fixed_are : (k n : ℕ) → AllByRecursion IsDigit (fixed_digits k n)
fixed_are zero n = tt
fixed_are (suc k) n =
    all_append IsDigit (fixed_digits k (n / 10)) ((48 + n % 10) ∷ []) (fixed_are k (n / 10)) ((omega arith, omega arith), tt)

fixed_long : (k n : ℕ) → length (fixed_digits k n) ≡ k
fixed_long zero n = refl
fixed_long (suc k) n =
    omega (arith, length-append (fixed_digits k (n / 10)) ((48 + n % 10) ∷ []), fixed_long k (n / 10))

fixed_some : (k n : ℕ) → 0 < k → HasDigits (fixed_digits k n)
fixed_some k n some = (omega (arith, fixed_long k n, some), fixed_are k n)

no_less : (test : ℕ → Bool) (k : ℕ) (passes : Bool) (i : ℕ) → i ≤ first_passing test k passes i
no_less test zero passes i = omega arith
no_less test (suc k) true i = omega arith
no_less test (suc k) false i = let more : suc i ≤ first_passing test k (test (suc i)) (suc i) = no_less test k (test (suc i)) (suc i) in
    omega (arith, more)

count_some : (n : ℕ) → 0 < count_of 0 n
unfolding count_of
count_some n = no_less (λ c. nat_lt n (10 ^ (c + 0))) n (nat_lt n (10 ^ (1 + 0))) 1

-- ---- numbers

-- a point and digits
abbrev pub IsFraction : List ℕ → Type 0
IsFraction text = (ds : List ℕ) × HasDigits ds × (text ≡ 46 ∷ ds)

-- e, a minus or none, and digits
abbrev pub IsPower : List ℕ → Type 0
IsPower text = (minus : Bool) × (ds : List ℕ) × HasDigits ds × (text ≡ 101 ∷ (sign_text minus ++ ds))

-- one of both, or both
abbrev pub IsTail : List ℕ → Type 0
IsTail text =
    IsFraction text ⊎ (IsPower text ⊎ ((fraction power : List ℕ) × IsFraction fraction × IsPower power × (text ≡ fraction ++ power)))

-- a number without a sign that is no integer
abbrev pub IsUnsigned : List ℕ → Type 0
IsUnsigned text = (whole : List ℕ) × HasDigits whole × ((tail : List ℕ) × IsTail tail × (text ≡ whole ++ tail))

plain_of : (decimals n count : ℕ) → 0 < decimals → 0 < count → IsUnsigned (fixed_text false decimals n count)
plain_of decimals n count some some_whole = (
  fixed_digits count (n / 10 ^ decimals),
  fixed_some count (n / 10 ^ decimals) some_whole,
  (46 ∷ fixed_digits decimals n, inl (fixed_digits decimals n, fixed_some decimals n some, refl), rw (lt-ltb 0 decimals some) refl),
)

plain_is : (n last point : ℕ) → IsUnsigned (plain_text n last point)
plain_is n last point =
    let decimals : ℕ = max (400 - last) 1 in
    plain_of decimals (n * 10 ^ (last + decimals - 400)) (max (point - 400) 1) (omega arith) (omega arith)

raised_is : (n count point : ℕ) → IsUnsigned (raised_text n count point)
raised_is n count point = (
  fixed_digits 1 (n / 10 ^ (count - 1)),
  fixed_some 1 (n / 10 ^ (count - 1)) (omega arith),
  (point_text false (count - 1) n ++ power, go (nat_lt 0 (count - 1)) refl, refl),
)
  where
    size : ℕ
    size = exponent_size (point - 1)

    power : List ℕ
    power = 101 ∷ (sign_text (nat_lt (point - 1) 400) ++ fixed_digits (count_of 0 size) size)

    is_power : IsPower power
    is_power = (nat_lt (point - 1) 400, fixed_digits (count_of 0 size) size, fixed_some (count_of 0 size) size (count_some size), refl)

    go : (b : Bool) → nat_lt 0 (count - 1) ≡ b → IsTail (cond (b || false) (46 ∷ fixed_digits (count - 1) n) [] ++ power)
    go true e =
        let some : 0 < count - 1 = ltb-true 0 (count - 1) e in
        inr (inr (
          46 ∷ fixed_digits (count - 1) n,
          power,
          (fixed_digits (count - 1) n, fixed_some (count - 1) n some, refl),
          is_power,
          refl,
        ))
    go false e = inr (inl is_power)

laid_is : (r : real.Real) (n last : ℕ) → IsUnsigned (laid_out r n last)
laid_is r n last = by (is_plain r (count_of 0 n + last))
  where
    by : (b : Bool)
        → IsUnsigned (cond b (plain_text n last (count_of 0 n + last)) (raised_text n (count_of 0 n) (count_of 0 n + last)))
    by true = plain_is n last (count_of 0 n + last)
    by false = raised_is n (count_of 0 n) (count_of 0 n + last)

zero_is : IsUnsigned (codes "0.0")
zero_is = (
  48 ∷ [],
  (omega arith, ((omega arith, omega arith), tt)),
  (
    46 ∷ 48 ∷ [],
    inl (48 ∷ [], (omega arith, ((omega arith, omega arith), tt)), refl),
    refl,
  ),
)

size_is : (r : real.Real) (x : Float) → float_is_finite x ≡ true → IsUnsigned (size_text r x)
unfolding float_is_finite
size_is r nan e = absurd (true≢false (sym e))
size_is r (inf s) e = absurd (true≢false (sym e))
size_is r (fin s m e) is = by (nat_eq m 0)
  where
    by : (b : Bool) → IsUnsigned (cond b (codes "0.0") (laid_out r (shortest r).0 (shortest r).1))
    by true = zero_is
    by false = laid_is r (shortest r).0 (shortest r).1

-- the text of a finite float: a sign, and such a number
pub record IsDecimal (text : List ℕ) : Type 0 where
  pub negative : Bool
  pub size : List ℕ
  pub unsigned : IsUnsigned size
  pub is : text ≡ sign_text negative ++ size

pub finite_is : (r : real.Real) → is_finite r ≡ true → IsDecimal (shortest_text r)
unfolding shortest_text
finite_is r e = record {
  negative = is_sign_negative (number_of r);
  size = size_text r (number_of r);
  unsigned = size_is r (number_of r) e;
  is = refl;
}

-- ---- bytes

-- a byte that stands for itself in each form
abbrev pub IsTextByte : ℕ → Type 0
IsTextByte b = (45 ≤ b) × (b ≤ 122) × (b ≡ 92 → ⊥)

abbrev AreText : List ℕ → Type 0
AreText = AllByRecursion IsTextByte

pub number_text : (xs : List ℕ) → AllByRecursion IsNumberByte xs → AllByRecursion IsTextByte xs
number_text = all_map IsNumberByte IsTextByte (λ b is. (is.0, omega (arith, is.1), λ e. omega (arith, e, is.1)))

digits_text : (xs : List ℕ) → AllByRecursion IsDigit xs → AreText xs
digits_text = all_map IsDigit IsTextByte (λ b is. (omega (arith, is.0), omega (arith, is.1), λ e. omega (arith, e, is.1)))

byte_text : (b : ℕ) → 45 ≤ b → b ≤ 122 → (b ≡ 92 → ⊥) → (xs : List ℕ) → AreText xs → AreText (b ∷ xs)
byte_text b low high other xs are = ((low, high, other), are)

sign_bytes : (negative : Bool) (xs : List ℕ) → AreText xs → AreText (sign_text negative ++ xs)
sign_bytes true xs are = byte_text 45 (omega arith) (omega arith) (λ e. omega (arith, e)) xs are
sign_bytes false xs are = are

fraction_bytes : (xs : List ℕ) → IsFraction xs → AreText xs
fraction_bytes xs (ds, has, is) =
    subst AreText (sym is) (byte_text 46 (omega arith) (omega arith) (λ e. omega (arith, e)) ds (digits_text ds has.1))

power_bytes : (xs : List ℕ) → IsPower xs → AreText xs
power_bytes xs (minus, ds, has, is) =
    subst AreText (sym is) (byte_text 101 (omega arith) (omega arith) (λ e. omega (arith, e)) (sign_text minus ++ ds)
    (sign_bytes minus ds (digits_text ds has.1)))

tail_bytes : (xs : List ℕ) → IsTail xs → AreText xs
tail_bytes xs (inl fraction) = fraction_bytes xs fraction
tail_bytes xs (inr (inl power)) = power_bytes xs power
tail_bytes xs (inr (inr (f, p, fraction, power, is))) =
    subst AreText (sym is) (all_append IsTextByte f p (fraction_bytes f fraction) (power_bytes p power))

unsigned_bytes : (xs : List ℕ) → IsUnsigned xs → AreText xs
unsigned_bytes xs (whole, has, (tail, rest, is)) =
    subst AreText (sym is) (all_append IsTextByte whole tail (digits_text whole has.1) (tail_bytes tail rest))

size_bytes : (r : real.Real) (x : Float) → AreText (size_text r x)
unfolding float_is_finite
size_bytes r nan = byte_text 110 (omega arith) (omega arith) (λ e. omega (arith, e)) (97 ∷ 110 ∷ [])
    (byte_text 97 (omega arith) (omega arith) (λ e. omega (arith, e)) (110 ∷ [])
    (byte_text 110 (omega arith) (omega arith) (λ e. omega (arith, e)) [] tt))
size_bytes r (inf s) = byte_text 105 (omega arith) (omega arith) (λ e. omega (arith, e)) (110 ∷ 102 ∷ [])
    (byte_text 110 (omega arith) (omega arith) (λ e. omega (arith, e)) (102 ∷ [])
    (byte_text 102 (omega arith) (omega arith) (λ e. omega (arith, e)) [] tt))
size_bytes r (fin s m e) = unsigned_bytes (size_text r (fin s m e)) (size_is r (fin s m e) refl)

pub real_bytes : (r : real.Real) → AllByRecursion IsTextByte (shortest_text r)
unfolding shortest_text
real_bytes r = sign_bytes (is_sign_negative (number_of r)) (size_text r (number_of r)) (size_bytes r (number_of r))

pub text_ascii : (xs : List ℕ) → AllByRecursion IsTextByte xs → AllByRecursion (λ b. b < 128) xs
text_ascii = all_map IsTextByte (λ b. b < 128) (λ b is. omega (arith, is.1))

pub real_are_bytes : (r : real.Real) → AreBytes (shortest_text r)
real_are_bytes r = all_map IsTextByte (λ b. b < 256) (λ b is. omega (arith, is.1)) (shortest_text r) (real_bytes r)
