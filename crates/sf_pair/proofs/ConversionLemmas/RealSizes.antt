-- How long the texts of floats are: that of 0 is the shortest.
use Rattle.std.proofs.Common.{◌≡◌, ◌⊎◌, inl, inr, ℕ, zero, suc, ◌+◌, ◌-◌, ◌*◌, ◌/◌, ◌%◌, ◌^◌, ◌<◌, ◌≤◌, Bool, true, false, cond, ◌&&◌, ◌||◌}
use Rattle.std.proofs.Common.{nat_lt, nat_le, nat_eq, List, [], ◌∷◌, ◌++◌, length, max, pos, Option, Some, None, unwrap_or, refl, sym, ap}
use Rattle.std.proofs.Common.{subst, ◌∙◌, arith, length-append, from_bits, eq-or-lt_of_le, eq-zero-or-pos, pow-suc, mul-le-mul_right}
use Rattle.std.proofs.Common.{mul-pos}
use Rattle.std.proofs.Math.Nat.{zero-mod, zero-div, div-one, pow-le-pow_right}
use Rattle.std.proofs.lemmas.Bool.{lt-ltb, ltb-true}
use Rattle.std.proofs.lemmas.Bool.Decides.{nat_tests}
use Rattle.std.proofs.lemmas.List.{length-replicate}
use Rattle.std.specs.Prelude.{not}
use Rattle.std.specs.Float.{is_sign_negative, float_is_finite}
use Rattle.std.specs.Float.Ieee.{Float, nan, inf, fin, up, down, binary64, of_bits}
use Rattle.std.specs.Float.Ieee.Nearest.{closest}
use lib.Ieee.Fits.{down_pos}
use lib.Dec.{lit<}
use Rattle.sf_float.specs.declared.text.Style.{Style}
use Rattle.sf_float.specs.declared.text.Style.TheVariants.{Fixed, Exponent, General, Hexadecimal}
use Rattle.sf_float.specs.declared.text.FloatConv.{FloatConv}
use Rattle.sf_float.specs.Scaled.{scaled, scaled_at}
use Rattle.sf_float.specs.Texts.{fixed_digits, exponent_digits, exponent_size, point_text}
use Rattle.sf_float.specs.Printed.{sign, mark, is_hexadecimal, bare_len, left_blanks, inner_zeros, right_blanks, pads_with_zeros}
use Rattle.sf_float.specs.Hexadecimal.{hex_digits, hex_digit, hex_text, hex_point, binary_power}
use Rattle.sf_float.specs.Computed.{first_passing, least_passing, count_of, needed_of, kept_of, cut_to, is_zero_size, power_of, number_of}
use Rattle.sf_float.specs.Computed.{is_plain_power, fixed_of, exponent_of, general_of, units_of, two_power_of, binary_number_of}
use Rattle.sf_float.specs.Computed.{hex_numeral_of, binary_exponent_of, hexadecimal_of, digits_text, float_text}
use Rattle.sf_float.proofs.ReadBack.{bounds}
use Rattle.sf_print.specs.texts.Text.{blanks, zeros}
use Rattle.sf_print.specs.texts.Visible.{without_blanks}
use Rattle.sf_pair.proofs.ConversionLemmas.Tests.{and_both}
use Rattle.sf_pair.proofs.ConversionLemmas.Shortest.{size_by, size_more}
use Rattle.sf_pair.proofs.ConversionLemmas.RealTexts.{case_length, fixed_length, first_low, count_some, exponent_long, raised_text}
use Rattle.sf_pair.proofs.ConversionLemmas.RealTexts.{exponent_text_is}
use Rattle.sf_pair.proofs.ConversionLemmas.RealTexts.{size_of, bare_sign, hidden, mark_bytes, after_sign, body, sign_is, mark_is, seen_is}
use Rattle.sf_pair.proofs.ConversionLemmas.RealTexts.{seen_is_all}

-- a point and so many digits
abbrev pub pointed_size : Bool → ℕ → ℕ
pointed_size alt d = cond (nat_lt 0 d || alt) (1 + d) 0

point_size : (alt : Bool) (d n : ℕ) → length (point_text alt d n) ≡ pointed_size alt d
point_size alt d n = by (nat_lt 0 d || alt)
  where
    by : (t : Bool) → length (cond t (46 ∷ fixed_digits d n) []) ≡ cond t (1 + d) 0
    by true = omega (arith, fixed_length d n)
    by false = refl

pub fixed_size : (alt : Bool) (d n : ℕ) → length (fixed_of alt d n) ≡ count_of d n + pointed_size alt d
fixed_size alt d n = omega (
  arith,
  length-append (fixed_digits (count_of d n) (n / 10 ^ d)) (point_text alt d n),
  fixed_length (count_of d n) (n / 10 ^ d),
  point_size alt d n,
)

pub exponent_of_size : (alt : Bool) (d n power : ℕ) → length (exponent_of alt d n power)
    ≡ 3 + pointed_size alt d + length (exponent_digits (exponent_size power))
exponent_of_size alt d n power =
    let point : List ℕ = point_text alt d n in
    let s : ℕ = cond (nat_lt power 400) 45 43 in
    let e : List ℕ = exponent_digits (exponent_size power) in
    omega (
      arith,
      ap length (exponent_text_is alt d n power),
      length-append (raised_text alt d n power) (s ∷ e),
      length-append (fixed_digits 1 (n / 10 ^ d)) (point ++ 101 ∷ []),
      length-append point (101 ∷ []),
      fixed_length 1 (n / 10 ^ d),
      point_size alt d n,
    )

hex_length : (k n : ℕ) → length (hex_digits k n) ≡ k
hex_length zero n = refl
hex_length (suc k) n = omega (arith, length-append (hex_digits k (n / 16)) (hex_digit (n % 16) ∷ []), hex_length k (n / 16))

pub hex_size : (alt : Bool) (d n : ℕ) → length (hex_text alt d n) ≡ 1 + pointed_size alt d
hex_size alt d n =
    omega (arith, length-append (hex_digits 1 (n / 16 ^ d)) (hex_point alt d n), hex_length 1 (n / 16 ^ d), by (nat_lt 0 d || alt))
  where
    by : (t : Bool) → length (cond t (46 ∷ hex_digits d n) []) ≡ cond t (1 + d) 0
    by true = omega (arith, hex_length d n)
    by false = refl

pub binary_exponent_size : (power : ℕ)
    → let size = (power - 1022) + (1022 - power) in length (binary_exponent_of power) ≡ 2 + count_of 0 size
binary_exponent_size power = let size = (power - 1022) + (1022 - power) in omega (arith, fixed_length (count_of 0 size) size)

-- ---- 0

pub zero_is : from_bits binary64 0 ≡ fin false 0 (pos 0)
unfolding of_bits
zero_is = refl

pub zero_scaled : (d : ℕ) → scaled (fin false 0 (pos 0)) d 0 ≡ 0
zero_scaled d = ap (λ (k : ℕ). closest k 1) {x = 0 * 1 * 10 ^ d} {y = 0} (omega arith)

-- that of 0 is as long as a number that rounds to 0
pub zero_count : (d : ℕ) → count_of d 0 ≡ 1
unfolding count_of
zero_count d = refl

pub needed_none : (base d : ℕ) → needed_of base d 0 ≡ 0
unfolding needed_of
needed_none base d = by d (nat_eq (0 % base ^ (d - 0)) 0) (ap (λ (k : ℕ). nat_eq k 0) (zero-mod (base ^ (d - 0))))
  where
    by : (k : ℕ) (t : Bool) → t ≡ true → first_passing (λ k. nat_eq (0 % base ^ (d - k)) 0) k t 0 ≡ 0
    by zero t e = refl
    by (suc k) true e = refl
    by (suc k) false e = absurd cc

pub fixed_zero : (alt : Bool) (d : ℕ) → length (fixed_of alt d 0) ≡ 1 + pointed_size alt d
fixed_zero alt d = omega (arith, fixed_size alt d 0, zero_count d)

-- the size of 0 in the style of g
general_zero_by : (alt t : Bool) (k d : ℕ) → t ≡ true → d + 1 ≡ k
    → length (cond t (fixed_of alt (kept_of 10 alt d 0) (cut_to 10 d 0 (kept_of 10 alt d 0)))
    (exponent_of alt (kept_of 10 alt (k - 1) 0) (cut_to 10 (k - 1) 0 (kept_of 10 alt (k - 1) 0)) 400)) ≡ cond alt (k + 1) 1
general_zero_by alt false k d e same = absurd cc
general_zero_by true true k d e same =
    ap (λ (n : ℕ). length (fixed_of true d n)) (zero-div (10 ^ (d - d))) ∙ fixed_zero true d ∙ always (nat_lt 0 d)
  where
    always : (t : Bool) → 1 + cond (t || true) (1 + d) 0 ≡ k + 1
    always true = omega (arith, same)
    always false = omega (arith, same)
general_zero_by false true k d e same =
    ap (λ (j : ℕ). length (fixed_of false j (cut_to 10 d 0 j))) (needed_none 10 d)
    ∙ ap (λ (n : ℕ). length (fixed_of false 0 n)) (zero-div (10 ^ (d - 0))) ∙ fixed_zero false 0

pub plain_zero : (k : ℕ) → 0 < k → is_plain_power k 400 ≡ true
plain_zero k some = let h : nat_lt 400 (400 + k) ≡ true = lt-ltb 400 (400 + k) (omega arith) in h

pub general_zero : (alt : Bool) (k : ℕ) → 0 < k → length (general_of alt k 0 400) ≡ cond alt (k + 1) 1
general_zero alt k some = general_zero_by alt (is_plain_power k 400) k (k + 399 - 400) (plain_zero k some) (omega arith)

-- and in the style of a
zero_units : units_of (fin false 0 (pos 0)) ≡ 0
zero_units = refl

pub zero_binary : binary_number_of (fin false 0 (pos 0)) ≡ 0
zero_binary = zero-div (2 ^ two_power_of (fin false 0 (pos 0)))

pub hexadecimal_zero : (alt : Bool) (precision : Option ℕ)
    → length (hexadecimal_of alt precision (fin false 0 (pos 0))) ≡ 4 + pointed_size alt (unwrap_or precision 0)
hexadecimal_zero alt precision =
    ap (λ (m : ℕ). length (hex_numeral_of alt precision m ++ binary_exponent_of (binary_power m (two_power_of (fin false 0 (pos 0))))))
    zero_binary
    ∙ omega (
      arith,
      length-append (hex_numeral_of alt precision 0) (binary_exponent_of 1022),
      binary_exponent_size 1022,
      zero_count 0,
      numeral precision,
    )
  where
    numeral : (o : Option ℕ) → length (hex_numeral_of alt o 0) ≡ 1 + pointed_size alt (unwrap_or o 0)
    numeral None = ap (λ (j : ℕ). length (hex_text alt j (cut_to 16 13 0 j))) (needed_none 16 13)
        ∙ hex_size alt 0 (cut_to 16 13 0 0)
    numeral (Some d) = hex_size alt d (closest (0 * 16 ^ d) (2 ^ 52))

-- ---- the least number that passes a test

pub passing : (test : ℕ → Bool) (k i : ℕ) (b : Bool) → test i ≡ b
    → (test (first_passing test k b i) ≡ true) ⊎ (first_passing test k b i ≡ i + k)
passing test zero i b is = inr (omega arith)
passing test (suc k) i true is = inl is
passing test (suc k) i false is =
    elim (passing test k (suc i) (test (suc i)) refl) [ inl h ↦ inl h | inr h ↦ inr (omega (arith, h)) ]

failing : (test : ℕ → Bool) (k i : ℕ) (b : Bool) → test i ≡ b → i < first_passing test k b i
    → test (first_passing test k b i - 1) ≡ false
failing test zero i b is more = absurd (omega (arith, more))
failing test (suc k) i true is more = absurd (omega (arith, more))
failing test (suc k) i false is more =
    let r : ℕ = first_passing test k (test (suc i)) (suc i) in
    elim (eq-or-lt_of_le (first_low test k (suc i) (test (suc i)))) [
      | inl e ↦ ap test {x = r - 1} {y = i} (omega (arith, e)) ∙ is
      | inr l ↦ failing test k (suc i) (test (suc i)) refl l
    ]

below_power : (k : ℕ) → k < 10 ^ k
below_power zero = omega arith
below_power (suc k) = omega (arith, below_power k, pow-suc 10 k)

pub count_fits : (d n : ℕ) → n < 10 ^ (count_of d n + d)
unfolding count_of
count_fits d n = elim (passing test n 1 (test 1) refl) [
  | inl h ↦ ltb-true n (10 ^ (first_passing test n (test 1) 1 + d)) h
  | inr h ↦
      let up : 10 ^ n ≤ 10 ^ (first_passing test n (test 1) 1 + d) = pow-le-pow_right {n = 10} (lit< tt) (omega (arith, h)) in
      omega (arith, below_power n, up)
]
  where
    test : ℕ → Bool
    test c = nat_lt n (10 ^ (c + d))

-- ---- a number with all its significant digits

grown : (a b n : ℕ) → 0 < b → 10 * n ≤ closest (10 * a) b → n ≤ closest a b
grown a b n B more =
    let h = bounds (10 * a) b B in
    let k = bounds a b B in
    elim (eq-zero-or-pos (n - closest a b)) [
      | inl none ↦ omega (arith, none)
      | inr some ↦
          let low : closest a b + 1 ≤ n = omega (arith, some) in
          absurd (omega (arith, h.from, k.to, mul-le-mul_right b low, mul-le-mul_right b more))
    ]

pub power_zero : (x : Float) (k : ℕ) → is_zero_size x ≡ true → (power_of x k ≡ 400) × (number_of x k ≡ 0)
unfolding power_of
power_zero x k e = (
  ap (λ (t : Bool). cond t 400 (least_passing (λ p. nat_lt (scaled_at x k p) (10 ^ k)) 1000 0)) e,
  ap (λ (t : Bool). cond t 0 (scaled_at x k (power_of x k))) e,
)

-- with one power less there are more digits
pub power_low : (x : Float) (k : ℕ) → is_zero_size x ≡ false → 0 < power_of x k → 10 ^ k ≤ scaled_at x k (power_of x k - 1)
unfolding power_of
power_low x k e some =
    let r : ℕ = least_passing test 1000 0 in
    let p : power_of x k ≡ r = ap (λ (t : Bool). cond t 400 r) e in
    let low : 0 < r = omega (arith, p, some) in
    subst (λ (q : ℕ). 10 ^ k ≤ scaled_at x k (q - 1)) (sym p)
    (not_below (scaled_at x k (r - 1)) (10 ^ k) (failing test 1000 0 (test 0) refl low))
  where
    test : ℕ → Bool
    test q = nat_lt (scaled_at x k q) (10 ^ k)

    not_below : (a b : ℕ) → nat_lt a b ≡ false → b ≤ a
    not_below a b e = grind (arith, nat_tests)

number_full : (x : Float) (k : ℕ) → 0 < k → is_zero_size x ≡ false → 396 ≤ power_of x k → power_of x k < 400 + k
    → 10 ^ (k - 1) ≤ number_of x k
number_full x k some e low high =
    let p : ℕ = power_of x k in
    let is : number_of x k ≡ scaled_at x k p = ap (λ (t : Bool). cond t 0 (scaled_at x k p)) e in
    let more : 10 ^ k ≤ scaled_at x k (p - 1) = power_low x k e (omega (arith, low)) in
    let up : 10 ^ k ≡ 10 * 10 ^ (k - 1) = ap (λ (j : ℕ). 10 ^ j) {x = k} {y = suc (k - 1)} (omega (arith, some))
    ∙ pow-suc 10 (k - 1) ∙ omega arith in
    let i : ℕ = k + 399 - p in
    let here : scaled_at x k p ≡ scaled x i 0 = ap (scaled x i) {x = p - (k + 399)} {y = 0} (omega (arith, high)) in
    let one : k + 399 - (p - 1) ≡ suc i = omega (arith, low, high) in
    let none : (p - 1) - (k + 399) ≡ 0 = omega (arith, high) in
    let there : scaled_at x k (p - 1) ≡ scaled x (suc i) 0 = (λ j. scaled x (one j) (none j)) in
    omega (arith, is, here, by x i (omega (arith, more, there, up)))
  where
    by : (x : Float) (i : ℕ) → 10 * 10 ^ (k - 1) ≤ scaled x (suc i) 0 → 10 ^ (k - 1) ≤ scaled x i 0
    by nan i h = omega (arith, h)
    by (inf t) i h = omega (arith, h)
    by (fin t m e) i h =
        let a : ℕ = m * up e * 10 ^ i in
        let b : ℕ = down e * 10 ^ 0 in
        let tens : m * up e * 10 ^ suc i ≡ 10 * a =
        ap (λ (j : ℕ). m * up e * j) (pow-suc 10 i) ∙ regroup (m * up e) (10 ^ i) in
        grown a b (10 ^ (k - 1)) (mul-pos (down_pos e) (lit< tt)) (subst (λ (v : ℕ). 10 * 10 ^ (k - 1) ≤ closest v b) tens h)
      where
        regroup : (y z : ℕ) → y * (z * 10) ≡ 10 * (y * z)
        regroup y z = omega arith

-- ---- no size is shorter than that of 0

general_plain : (alt : Bool) (k n power : ℕ) → power < 400 + k → 10 ^ (k - 1) ≤ n → 0 < k → alt ≡ true
    → k + 1 ≤ length (fixed_of alt (kept_of 10 alt (k + 399 - power) n)
    (cut_to 10 (k + 399 - power) n (kept_of 10 alt (k + 399 - power) n)))
general_plain false k n power high full some e = absurd cc
general_plain true k n power high full some e =
    let d : ℕ = k + 399 - power in
    let cut : cut_to 10 d n d ≡ n = ap (λ (j : ℕ). n / 10 ^ j) {x = d - d} {y = 0} (omega arith) ∙ div-one n in
    let size : length (fixed_of true d (cut_to 10 d n d)) ≡ count_of d n + (1 + d) =
    ap (λ (m : ℕ). length (fixed_of true d m)) cut ∙ fixed_size true d n ∙ ap (λ (j : ℕ). count_of d n + j) (always (nat_lt 0 d) d) in
    elim (eq-zero-or-pos (k - (count_of d n + d))) [
      | inl none ↦ omega (arith, none, size)
      | inr few ↦
          let more : 10 ^ (count_of d n + d) ≤ 10 ^ (k - 1) = pow-le-pow_right {n = 10} (lit< tt) (omega (arith, few)) in
          absurd (omega (arith, more, full, count_fits d n))
    ]
  where
    always : (t : Bool) (d : ℕ) → cond (t || true) (1 + d) 0 ≡ 1 + d
    always true d = refl
    always false d = refl

general_raised : (alt : Bool) (k n power : ℕ) → 0 < k
    → cond alt (k + 1) 1 ≤ length (exponent_of alt (kept_of 10 alt (k - 1) n) (cut_to 10 (k - 1) n (kept_of 10 alt (k - 1) n)) power)
general_raised false k n power some =
    let d : ℕ = kept_of 10 false (k - 1) n in
    omega (arith, exponent_of_size false d (cut_to 10 (k - 1) n d) power)
general_raised true k n power some =
    let d : ℕ = k - 1 in
    omega (arith, exponent_of_size true d (cut_to 10 d n d) power, always (nat_lt 0 d) d)
  where
    always : (t : Bool) (d : ℕ) → 1 + d ≤ cond (t || true) (1 + d) 0
    always true d = omega arith
    always false d = omega arith

general_more : (alt : Bool) (k : ℕ) (x : Float) → 0 < k → cond alt (k + 1) 1 ≤ length (general_of alt k (number_of x k) (power_of x k))
general_more alt k x some = by (is_zero_size x) refl
  where
    plain : (alt : Bool) → is_zero_size x ≡ false → is_plain_power k (power_of x k) ≡ true → cond alt (k + 1) 1
        ≤ length (fixed_of alt (kept_of 10 alt (k + 399 - power_of x k) (number_of x k))
        (cut_to 10 (k + 399 - power_of x k) (number_of x k) (kept_of 10 alt (k + 399 - power_of x k) (number_of x k))))
    plain false e h =
        let d : ℕ = kept_of 10 false (k + 399 - power_of x k) (number_of x k) in
        let m : ℕ = cut_to 10 (k + 399 - power_of x k) (number_of x k) d in
        omega (arith, fixed_size false d m, count_some d m)
    plain true e h =
        let t = and_both (nat_le 396 (power_of x k)) (nat_lt (power_of x k) (400 + k)) h in
        let low : 396 ≤ power_of x k = at_least 396 (power_of x k) t.0 in
        let high : power_of x k < 400 + k = ltb-true (power_of x k) (400 + k) t.1 in
        general_plain true k (number_of x k) (power_of x k) high (number_full x k some e low high) some refl
      where
        at_least : (a b : ℕ) → nat_le a b ≡ true → a ≤ b
        at_least a b h = grind (arith, nat_tests)

    sized : (t : Bool) → is_zero_size x ≡ false → is_plain_power k (power_of x k) ≡ t → cond alt (k + 1) 1
        ≤ length (cond t (fixed_of alt (kept_of 10 alt (k + 399 - power_of x k) (number_of x k))
        (cut_to 10 (k + 399 - power_of x k) (number_of x k) (kept_of 10 alt (k + 399 - power_of x k) (number_of x k))))
        (exponent_of alt (kept_of 10 alt (k - 1) (number_of x k))
        (cut_to 10 (k - 1) (number_of x k) (kept_of 10 alt (k - 1) (number_of x k))) (power_of x k)))
    sized true e h = plain alt e h
    sized false e h = general_raised alt k (number_of x k) (power_of x k) some

    by : (t : Bool) → is_zero_size x ≡ t → cond alt (k + 1) 1 ≤ length (general_of alt k (number_of x k) (power_of x k))
    by true e =
        let z = power_zero x k e in
        let same : length (general_of alt k (number_of x k) (power_of x k)) ≡ cond alt (k + 1) 1 =
        (λ i. length (general_of alt k (z.1 i) (z.0 i))) ∙ general_zero alt k some in
        omega (arith, same)
    by false e = sized (is_plain_power k (power_of x k)) e refl

-- ---- the digits of 0, and of any number

abbrev pub zero_number : Float
zero_number = fin false 0 (pos 0)

abbrev pub zero_digits : Style → Bool → Option ℕ → ℕ
zero_digits Fixed alt precision = 1 + pointed_size alt (unwrap_or precision 6)
zero_digits Exponent alt precision = 5 + pointed_size alt (unwrap_or precision 6)
zero_digits General alt precision = cond alt (max (unwrap_or precision 6) 1 + 1) 1
zero_digits Hexadecimal alt precision = 4 + pointed_size alt (unwrap_or precision 0)

pub some_digit : (n : ℕ) → 0 < max n 1
some_digit zero = omega arith
some_digit (suc n) = omega arith

same_digits : (alt : Bool) (k : ℕ) (x : Float) → 0 < k
    → length (general_of alt (k - 1 + 1) (number_of x (k - 1 + 1)) (power_of x (k - 1 + 1)))
    ≡ length (general_of alt k (number_of x (k - 1 + 1)) (power_of x (k - 1 + 1)))
same_digits alt k x some =
    let j : ℕ = k - 1 + 1 in
    ap (λ (i : ℕ). length (general_of alt i (number_of x j) (power_of x j))) {x = j} {y = k} (omega (arith, some))

pub zero_digits_are : (s : Style) (alt : Bool) (precision : Option ℕ)
    → length (digits_text s alt precision zero_number) ≡ zero_digits s alt precision
zero_digits_are Fixed alt precision =
    let d = unwrap_or precision 6 in
    ap (λ (n : ℕ). length (fixed_of alt d n)) (zero_scaled d) ∙ fixed_zero alt d
zero_digits_are Exponent alt precision =
    let d = unwrap_or precision 6 in
    let z = power_zero zero_number (d + 1) refl in
    (λ i. length (exponent_of alt d (z.1 i) (z.0 i))) ∙ exponent_of_size alt d 0 400 ∙ omega arith
zero_digits_are General alt precision =
    let k = max (unwrap_or precision 6) 1 in
    let z = power_zero zero_number (k - 1 + 1) refl in
    (λ i. length (general_of alt k (z.1 i) (z.0 i))) ∙ general_zero alt k (some_digit (unwrap_or precision 6))
zero_digits_are Hexadecimal alt precision = hexadecimal_zero alt precision

pub digits_more : (s : Style) (alt : Bool) (precision : Option ℕ) (x : Float)
    → zero_digits s alt precision ≤ length (digits_text s alt precision x)
digits_more Fixed alt precision x =
    let d = unwrap_or precision 6 in
    omega (arith, fixed_size alt d (scaled x d 0), count_some d (scaled x d 0))
digits_more Exponent alt precision x =
    let d = unwrap_or precision 6 in
    let p : ℕ = power_of x (d + 1) in
    omega (arith, exponent_of_size alt d (number_of x (d + 1)) p, exponent_long (exponent_size p))
digits_more General alt precision x =
    let k = max (unwrap_or precision 6) 1 in
    let some : 0 < k = some_digit (unwrap_or precision 6) in
    subst (λ (j : ℕ). cond alt (k + 1) 1 ≤ length (general_of alt k (number_of x j) (power_of x j))) {x = k} {y = k - 1 + 1}
    (omega (arith, some)) (general_more alt k x some)
digits_more Hexadecimal alt precision x =
    let m : ℕ = binary_number_of x in
    let power : ℕ = binary_power m (two_power_of x) in
    let size : ℕ = (power - 1022) + (1022 - power) in
    omega (
      arith,
      length-append (hex_numeral_of alt precision m) (binary_exponent_of power),
      binary_exponent_size power,
      count_some 0 size,
      numeral precision m,
    )
  where
    pointed_more : (d : ℕ) → pointed_size alt 0 ≤ pointed_size alt d
    pointed_more d = by alt (nat_lt 0 d)
      where
        by : (alt t : Bool) → cond (false || alt) (1 + 0) 0 ≤ cond (t || alt) (1 + d) 0
        by true true = omega arith
        by true false = omega arith
        by false t = omega arith

    numeral : (o : Option ℕ) (m : ℕ) → 1 + pointed_size alt (unwrap_or o 0) ≤ length (hex_numeral_of alt o m)
    numeral None m = let d : ℕ = needed_of 16 13 m in omega (arith, hex_size alt d (cut_to 16 13 m d), pointed_more d)
    numeral (Some d) m = omega (arith, hex_size alt d (closest (m * 16 ^ d) (2 ^ 52)))

-- ---- the text

module _ (c : FloatConv) (x : Float) (finite : float_is_finite x ≡ true) where
  sign_size : length (sign c x) ≡ hidden c x + length (bare_sign c x)
  sign_size = ap length (sign_is c x)
      ∙ omega (arith, length-append (blanks (hidden c x)) (bare_sign c x), length-replicate {A = ℕ} (hidden c x) 32)

  bare_size : bare_len c x (size_of c x) ≡ hidden c x + length (bare_sign c x) + length (mark c x) + length (size_of c x)
  bare_size = omega (arith, sign_size)

  pub pads_is : pads_with_zeros c x ≡ (c.zero && not c.minus)
  pads_is = by (c.zero && not c.minus)
    where
      by : (t : Bool) → (t && float_is_finite x) ≡ t
      by true = finite
      by false = refl

  pub body_size : length (body c x)
      ≡ size_by (c.zero && not c.minus) c.width (hidden c x) (length (bare_sign c x)) (length (mark c x)) (length (size_of c x))
  body_size =
      let inner : inner_zeros c x (size_of c x) ≡ cond (c.zero && not c.minus)
      (c.width - (hidden c x + length (bare_sign c x) + length (mark c x) + length (size_of c x))) 0 =
      (λ i. cond (pads_is i) (c.width - bare_size i) 0) in
      omega (
        arith,
        inner,
        length-append (bare_sign c x) (after_sign c x),
        length-append (mark c x) (zeros (inner_zeros c x (size_of c x)) ++ size_of c x),
        length-append (zeros (inner_zeros c x (size_of c x))) (size_of c x),
        length-replicate {A = ℕ} (inner_zeros c x (size_of c x)) 48,
      )

  pub left_size : left_blanks c x (size_of c x) ≡ cond c.minus 0 (cond (c.zero && not c.minus) 0
      (c.width - (hidden c x + length (bare_sign c x) + length (mark c x) + length (size_of c x))))
  left_size = (λ i. cond c.minus 0 (cond (pads_is i) 0 (c.width - bare_size i)))

  pub right_size : right_blanks c x (size_of c x)
      ≡ cond c.minus (c.width - (hidden c x + length (bare_sign c x) + length (mark c x) + length (size_of c x))) 0
  right_size = ap (λ (k : ℕ). cond c.minus (c.width - k) 0) bare_size

  pub mark_size : length (mark c x) ≡ cond (is_hexadecimal c.style) 2 0
  mark_size = ap length (mark_is c x finite) ∙ by (is_hexadecimal c.style)
    where
      by : (t : Bool) → length (cond t (mark_bytes c) []) ≡ cond t 2 0
      by true = refl
      by false = refl

pub zero_finite : float_is_finite zero_number ≡ true
unfolding float_is_finite
zero_finite = refl

pub zero_positive : is_sign_negative zero_number ≡ false
unfolding is_sign_negative
zero_positive = refl

-- where the sign is that of a number that isn't negative
pub record Signs (c : FloatConv) (x : Float) : Type 0 where
  pub here : hidden c x + length (bare_sign c x) ≤ 1
  pub zero_here : hidden c zero_number + length (bare_sign c zero_number) ≤ 1
  pub no_longer : length (bare_sign c zero_number) ≤ length (bare_sign c x)
  pub no_blanker : hidden c x ≤ hidden c zero_number

abbrev bare_by : Bool → Bool → List ℕ
bare_by n p = cond n (45 ∷ []) (cond p (43 ∷ []) [])

abbrev hidden_by : Bool → Bool → Bool → ℕ
hidden_by n p b = cond n 0 (cond p 0 (cond b 1 0))

pub signs_of : (c : FloatConv) (x : Float) → Signs c x
signs_of c x = record {
  here = one (is_sign_negative x) c.plus c.blank;
  zero_here = one (is_sign_negative zero_number) c.plus c.blank;
  no_longer = subst (λ (z : Bool). length (bare_by z c.plus) ≤ length (bare_by (is_sign_negative x) c.plus)) (sym zero_positive)
      (longer (is_sign_negative x) c.plus);
  no_blanker = subst (λ (z : Bool). hidden_by (is_sign_negative x) c.plus c.blank ≤ hidden_by z c.plus c.blank) (sym zero_positive)
      (blanker (is_sign_negative x) c.plus c.blank);
}
  where
    one : (n p b : Bool) → hidden_by n p b + length (bare_by n p) ≤ 1
    one true p b = omega arith
    one false true b = omega arith
    one false false true = omega arith
    one false false false = omega arith

    longer : (n p : Bool) → length (bare_by false p) ≤ length (bare_by n p)
    longer true true = omega arith
    longer true false = omega arith
    longer false p = omega arith

    blanker : (n p b : Bool) → hidden_by n p b ≤ hidden_by false p b
    blanker true p b = omega arith
    blanker false p b = omega arith

pub least_is_shortest : (c : FloatConv) (x : Float) → c.minus ≡ false → float_is_finite x ≡ true
    → length (without_blanks (float_text c zero_number)) ≤ length (without_blanks (float_text c x))
least_is_shortest c x right finite =
    let m = signs_of c x in
    let digits : length (size_of c zero_number) ≤ length (size_of c x) = omega (
      arith,
      case_length c.upper (digits_text c.style c.alt c.precision zero_number),
      case_length c.upper (digits_text c.style c.alt c.precision x),
      zero_digits_are c.style c.alt c.precision,
      digits_more c.style c.alt c.precision x,
    ) in
    omega (
      arith,
      ap length (seen_is c zero_number zero_finite right),
      ap length (seen_is c x finite right),
      body_size c zero_number zero_finite,
      body_size c x finite,
      size_more (c.zero && not c.minus) c.width (hidden c zero_number) (length (bare_sign c zero_number)) (length (mark c zero_number))
          (length (size_of c zero_number)) (hidden c x) (length (bare_sign c x)) (length (mark c x)) (length (size_of c x)) m.here
          m.zero_here m.no_longer m.no_blanker
          (omega (arith, mark_size c zero_number zero_finite, mark_size c x finite)) digits,
    )

-- the length of the text of 0, also where a minus pads it
pub zero_seen_size : (c : FloatConv) (signed hidden_one mark_two digits n : ℕ) → signed ≡ cond (c.plus || c.blank) 1 0
    → hidden_one ≡ cond (c.blank && not c.plus) 1 0 → mark_two ≡ cond (is_hexadecimal c.style) 2 0
    → digits ≡ zero_digits c.style c.alt c.precision
    → n ≡ cond (c.zero || c.minus) (max (signed + mark_two + digits) c.width) (signed + mark_two + digits)
    → n - hidden_one ≡ length (without_blanks (float_text c zero_number))
zero_seen_size c signed hidden_one mark_two digits n s h k d is =
    let x : Float = zero_number in
    let size : length (size_of c x) ≡ digits = omega (
      arith,
      d,
      case_length c.upper (digits_text c.style c.alt c.precision x),
      zero_digits_are c.style c.alt c.precision,
    ) in
    let no_minus = zero_positive in
    let hid : hidden c x ≡ hidden_one = ap (λ (t : Bool). hidden_by t c.plus c.blank) no_minus ∙ hid_by c.plus c.blank ∙ sym h in
    let bare : hidden c x + length (bare_sign c x) ≡ signed =
    (λ i. hidden_by (no_minus i) c.plus c.blank + length (bare_by (no_minus i) c.plus)) ∙ sign_by c.plus c.blank ∙ sym s in
    let seen : length (without_blanks (float_text c x)) ≡ length (body c x) + right_blanks c x (size_of c x) =
    ap length (seen_is_all c x zero_finite) ∙ omega (
      arith,
      length-append (body c x) (blanks (right_blanks c x (size_of c x))),
      length-replicate {A = ℕ} (right_blanks c x (size_of c x)) 32,
    ) in
    by c.zero c.minus is (length (without_blanks (float_text c x))) (hidden c x) (length (bare_sign c x)) (length (mark c x))
    (length (size_of c x)) (seen ∙ (λ i. body_size c x zero_finite i + right_size c x zero_finite i)) hid bare
    (mark_size c x zero_finite ∙ sym k) size
  where
    hid_by : (p b : Bool) → hidden_by false p b ≡ cond (b && not p) 1 0
    hid_by true true = refl
    hid_by true false = refl
    hid_by false true = refl
    hid_by false false = refl

    sign_by : (p b : Bool) → hidden_by false p b + length (bare_by false p) ≡ cond (p || b) 1 0
    sign_by true b = refl
    sign_by false true = refl
    sign_by false false = refl

    by : (z m : Bool) → n ≡ cond (z || m) (max (signed + mark_two + digits) c.width) (signed + mark_two + digits) → (t h v k g : ℕ)
        → t ≡ size_by (z && not m) c.width h v k g + cond m (c.width - (h + v + k + g)) 0 → h ≡ hidden_one → h + v ≡ signed
        → k ≡ mark_two → g ≡ digits → n - hidden_one ≡ t
    by true true e t h v k g a b d l m = omega (arith, e, a, b, d, l, m)
    by true false e t h v k g a b d l m = omega (arith, e, a, b, d, l, m)
    by false true e t h v k g a b d l m = omega (arith, e, a, b, d, l, m)
    by false false e t h v k g a b d l m = omega (arith, e, a, b, d, l, m)
