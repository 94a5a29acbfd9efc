-- No finite double has a longer text than is said.
use Rattle.std.proofs.Common.{◌≡◌, inl, inr, ℕ, zero, suc, ◌+◌, ◌-◌, ◌*◌, ◌/◌, ◌%◌, ◌^◌, ◌<◌, ◌≤◌, Bool, true, false, cond, ◌&&◌, ◌||◌}
use Rattle.std.proofs.Common.{nat_lt, nat_le, nat_eq, length, max, Option, Some, None, unwrap_or, from_bits, T, refl, sym, ap, subst, ◌∙◌}
use Rattle.std.proofs.Common.{arith, length-append, true≢false, eq-or-lt_of_le, eq-zero-or-pos, le_of_lt, lt_of_le_of_lt, mul-pos}
use Rattle.std.proofs.Common.{mul-lt-mul_of_pos_right, mul-le-mul_right}
use Rattle.std.specs.Prelude.{not}
use Rattle.std.proofs.Math.Nat.{pow-le-pow_right, zero-mul, div-lt_iff_lt-mul}
use Rattle.std.proofs.lemmas.Nat.{pow-add}
use lib.Ieee.Bits.{of_bits-fits}
use Rattle.std.proofs.lemmas.Bool.{lt-ltb, ltb-true}
use Rattle.std.proofs.lemmas.Bool.Decides.{nat_tests}
use Rattle.std.specs.Float.{float_is_finite}
use Rattle.std.specs.Float.Ieee.{Float, nan, inf, fin, up, down, fits, binary64}
use Rattle.std.specs.Float.Ieee.Nearest.{closest}
use lib.Ieee.Fits.{down_pos}
use lib.Dec.{lit<}
use Rattle.sf_format.specs.declared.unit.FloatStyle.{FloatStyle}
use Rattle.sf_format.specs.declared.unit.FloatStyle.TheVariants as style
use Rattle.sf_format.specs.declared.unit.PrintConv.{PrintConv}
use Rattle.sf_format.specs.declared.unit.PrintLetter.{PrintLetter}
use Rattle.sf_format.specs.declared.unit.PrintLetter.TheVariants as letter
use Rattle.sf_float.specs.declared.text.Style.{Style}
use Rattle.sf_float.specs.declared.text.Style.TheVariants.{Hexadecimal}
use Rattle.sf_float.specs.declared.text.FloatConv.{FloatConv}
use Rattle.sf_float.specs.Printed.{mark, is_hexadecimal}
use Rattle.sf_float.proofs.Powers.{closest_le}
use Rattle.sf_float.proofs.Limbs.{power_pos}
use Rattle.sf_float.specs.Scaled.{scaled, scaled_at}
use Rattle.sf_float.specs.Texts.{exponent_digits, exponent_size, fixed_digits}
use Rattle.sf_float.specs.Hexadecimal.{binary_power}
use Rattle.sf_float.specs.Computed.{first_passing, least_passing, count_of, needed_of, kept_of, cut_to, is_zero_size, units_of, power_of}
use Rattle.sf_float.specs.Computed.{number_of, is_plain_power, fixed_of, exponent_of, general_of, two_power_of, binary_number_of}
use Rattle.sf_float.specs.Computed.{hex_numeral_of, binary_exponent_of, digits_text}
use Rattle.sf_print.specs.texts.Floats.{style_of, float_conv}
use Rattle.sf_pair.specs.conversions.Widths.{written_style, longest_digits, mark_digits, longest_float, NoneIsLonger}
use Rattle.sf_pair.proofs.ConversionLemmas.Tests.{and_both}
use Rattle.sf_pair.proofs.ConversionLemmas.RealTexts.{case_length, fixed_length, size_of, bare_sign, hidden, body, seen_is}
use Rattle.sf_pair.proofs.ConversionLemmas.RealSizes.{pointed_size, fixed_size, exponent_of_size, hex_size, binary_exponent_size, passing}
use Rattle.sf_pair.proofs.ConversionLemmas.RealSizes.{some_digit}
use Rattle.sf_pair.proofs.ConversionLemmas.RealSizes.{body_size, mark_size, signs_of}
use Rattle.sf_pair.proofs.ConversionLemmas.Shortest.{size_by}

-- ---- what is looked for is found early

pub reached : (test : ℕ → Bool) (k i m : ℕ) (b : Bool) → test i ≡ b → i ≤ m → test m ≡ true → first_passing test k b i ≤ m
reached test zero i m b is low passes = low
reached test (suc k) i m true is low passes = low
reached test (suc k) i m false is low passes =
    elim (eq-or-lt_of_le low) [
      | inl e ↦ absurd (true≢false (sym passes ∙ ap test (sym e) ∙ is))
      | inr l ↦ reached test k (suc i) m (test (suc i)) refl l passes
    ]

first_high : (test : ℕ → Bool) (k i : ℕ) (b : Bool) → first_passing test k b i ≤ i + k
first_high test zero i b = omega arith
first_high test (suc k) i true = omega arith
first_high test (suc k) i false = omega (arith, first_high test k (suc i) (test (suc i)))

count_most : (d n m : ℕ) → 1 ≤ m → n < 10 ^ (m + d) → count_of d n ≤ m
unfolding count_of
count_most d n m low few = reached (λ c. nat_lt n (10 ^ (c + d))) n 1 m (nat_lt n (10 ^ (1 + d))) refl low (lt-ltb n (10 ^ (m + d)) few)

pub needed_most : (base d n : ℕ) → needed_of base d n ≤ d
unfolding needed_of
needed_most base d n = omega (arith, first_high (λ k. nat_eq (n % base ^ (d - k)) 0) d 0 (nat_eq (n % base ^ (d - 0)) 0))

pub kept_most : (base : ℕ) (all : Bool) (d n : ℕ) → kept_of base all d n ≤ d
kept_most base true d n = omega arith
kept_most base false d n = needed_most base d n

two_power_most : (x : Float) → two_power_of x ≤ 2046
unfolding two_power_of
two_power_most x =
    omega (arith, first_high (λ p. nat_lt (units_of x / 2 ^ p) (2 ^ 53)) 2046 0 (nat_lt (units_of x / 2 ^ 0) (2 ^ 53)))

some_pointed : (alt : Bool) (k : ℕ) → 0 < k → pointed_size alt k ≡ 1 + k
some_pointed alt k some = ap (λ (t : Bool). cond (t || alt) (1 + k) 0) (lt-ltb 0 k some)

pointed_most : (alt : Bool) (k d : ℕ) → k ≤ d → pointed_size alt k ≤ pointed_size alt d
pointed_most alt k d low = elim (eq-zero-or-pos k) [
  | inl e ↦ subst (λ (j : ℕ). pointed_size alt j ≤ pointed_size alt d) (sym e) (by alt (nat_lt 0 d))
  | inr some ↦ omega (arith, some_pointed alt k some, some_pointed alt d (omega (arith, some, low)), low)
]
  where
    by : (a t : Bool) → cond (false || a) (1 + 0) 0 ≤ cond (t || a) (1 + d) 0
    by true true = omega arith
    by true false = omega arith
    by false t = omega arith

-- ---- the style of f

pub t_right : (a b : Bool) → T (a && b) → T b
t_right true b t = t
t_right false b t = absurd t

pub t_less : (a b : ℕ) → T (nat_lt a b) → a < b
t_less a b t = by (nat_lt a b) refl t
  where
    by : (v : Bool) → nat_lt a b ≡ v → T v → a < b
    by true e t = ltb-true a b e
    by false e t = absurd t

-- a finite double is below 2 ^ 1024
pub size_small : (s : Bool) (m : ℕ) (e : _) → T (fits binary64 (fin s m e)) → m * up e ≤ 2 ^ 1024 * down e
unfolding fits
size_small s zero e f = omega (arith, zero-mul (up e))
size_small s (suc m) e f = le_of_lt (t_less (suc m * up e) (2 ^ 1024 * down e)
    (t_right (nat_eq (suc m % 2) 1 && nat_lt (suc m) (2 ^ 53) && nat_le (down e) (2 ^ 1074)) (nat_lt (suc m * up e) (2 ^ 1024 * down e)) f))

pub greatest : 2 ^ 1024 < 10 ^ 309
greatest = lit< tt

pub power_some : (k : ℕ) → 0 < 10 ^ k
power_some k = power_pos 10 k (lit< tt)

fixed_small : (x : Float) (d : ℕ) → T (fits binary64 x) → scaled x d 0 < 10 ^ (309 + d)
fixed_small nan d f = power_some (309 + d)
fixed_small (inf s) d f = power_some (309 + d)
fixed_small (fin s m e) d f =
    let b : ℕ = down e * 10 ^ 0 in
    let low : m * up e * 10 ^ d ≤ 2 ^ 1024 * down e * 10 ^ d = mul-le-mul_right (10 ^ d) (size_small s m e f) in
    let same : 2 ^ 1024 * down e * 10 ^ d ≡ 2 ^ 1024 * 10 ^ d * (down e * 10 ^ 0) = regroup (2 ^ 1024) (down e) (10 ^ d) in
    let most : closest (m * up e * 10 ^ d) b ≤ 2 ^ 1024 * 10 ^ d =
    closest_le (2 ^ 1024 * 10 ^ d) (m * up e * 10 ^ d) b (mul-pos (down_pos e) (lit< tt)) (omega (arith, low, same)) in
    let less : 2 ^ 1024 * 10 ^ d < 10 ^ 309 * 10 ^ d = mul-lt-mul_of_pos_right greatest (power_some d) in
    rw (pow-add 10 309 d) (lt_of_le_of_lt most less)
  where
    regroup : (a b c : ℕ) → a * b * c ≡ a * c * (b * 1)
    regroup a b c = omega arith

fixed_most : (alt : Bool) (d : ℕ) (x : Float) → T (fits binary64 x) → length (fixed_of alt d (scaled x d 0)) ≤ 309 + pointed_size alt d
fixed_most alt d x f =
    let n : ℕ = scaled x d 0 in
    omega (arith, fixed_size alt d n, count_most d n 309 (omega arith) (fixed_small x d f))

-- ---- the style of e

exponent_most : (e : ℕ) → length (exponent_digits e) ≤ 3
exponent_most e = by (nat_lt e 100)
  where
    by : (t : Bool) → length (cond t (fixed_digits 2 e) (fixed_digits 3 e)) ≤ 3
    by true = omega (arith, fixed_length 2 e)
    by false = omega (arith, fixed_length 3 e)

-- ---- the style of g

-- no more digits than are asked for, where the power isn't the last that is tried
pub number_fits : (x : Float) (k : ℕ) → power_of x k < 1000 → number_of x k < 10 ^ k
unfolding power_of
number_fits x k few = by (is_zero_size x) refl few
  where
    test : ℕ → Bool
    test p = nat_lt (scaled_at x k p) (10 ^ k)

    by : (t : Bool) → is_zero_size x ≡ t → cond t 400 (least_passing (λ p. nat_lt (scaled_at x k p) (10 ^ k)) 1000 0) < 1000
        → cond t 0 (scaled_at x k (cond t 400 (least_passing (λ p. nat_lt (scaled_at x k p) (10 ^ k)) 1000 0))) < 10 ^ k
    by true e few = power_some k
    by false e few = elim (passing (λ p. nat_lt (scaled_at x k p) (10 ^ k)) 1000 0 (nat_lt (scaled_at x k 0) (10 ^ k)) refl) [
      | inl h ↦ ltb-true _ _ h
      | inr h ↦ absurd (omega (arith, h, few))
    ]

-- fewer digits after the point, and no more before it
cut_small : (d n kept m : ℕ) → kept ≤ d → n < 10 ^ (m + d) → cut_to 10 d n kept < 10 ^ (m + kept)
cut_small d n kept m low few =
    (div-lt_iff_lt-mul (power_some (d - kept))).1 (omega (arith, few, together))
  where
    together : 10 ^ (m + d) ≡ 10 ^ (m + kept) * 10 ^ (d - kept)
    together = ap (λ (j : ℕ). 10 ^ j) {x = m + d} {y = (m + kept) + (d - kept)} (omega (arith, low)) ∙ pow-add 10 (m + kept) (d - kept)

general_plain_most : (alt : Bool) (k n power : ℕ) → 0 < k → 396 ≤ power → power < 400 + k → n < 10 ^ k
    → length (fixed_of alt (kept_of 10 alt (k + 399 - power) n)
    (cut_to 10 (k + 399 - power) n (kept_of 10 alt (k + 399 - power) n))) ≤ k + 5
general_plain_most alt k n power some low high few =
    let d : ℕ = k + 399 - power in
    let kept : ℕ = kept_of 10 alt d n in
    let m : ℕ = max 1 (k - d) in
    let up : 10 ^ k ≤ 10 ^ (m + d) = pow-le-pow_right {n = 10} (lit< tt) (omega arith) in
    let c : count_of kept (cut_to 10 d n kept) ≤ m = count_most kept (cut_to 10 d n kept) m (omega arith)
    (cut_small d n kept m (kept_most 10 alt d n) (omega (arith, few, up))) in
    omega (arith, fixed_size alt kept (cut_to 10 d n kept), c, kept_most 10 alt d n, one_more alt kept)
  where
    one_more : (alt : Bool) (d : ℕ) → pointed_size alt d ≤ 1 + d
    one_more alt d = by (nat_lt 0 d || alt)
      where
        by : (t : Bool) → cond t (1 + d) 0 ≤ 1 + d
        by true = omega arith
        by false = omega arith

-- a point stands after the first of many
many : (k : ℕ) → 1 < k → (alt : Bool) → cond (nat_lt 1 k || alt) (1 + k) 1 ≡ 1 + k
many k more alt = ap (λ (t : Bool). cond (t || alt) (1 + k) 1) (lt-ltb 1 k more)

general_raised_most : (alt : Bool) (k n power : ℕ) → 0 < k
    → length (exponent_of alt (kept_of 10 alt (k - 1) n) (cut_to 10 (k - 1) n (kept_of 10 alt (k - 1) n)) power)
    ≤ cond (nat_lt 1 k || alt) (1 + k) 1 + 5
general_raised_most alt k n power some =
    let d : ℕ = kept_of 10 alt (k - 1) n in
    omega (
      arith,
      exponent_of_size alt d (cut_to 10 (k - 1) n d) power,
      exponent_most (exponent_size power),
      pointed_most alt d (k - 1) (kept_most 10 alt (k - 1) n),
      one_less k some alt,
    )
  where
    one_less : (k : ℕ) → 0 < k → (alt : Bool) → 1 + pointed_size alt (k - 1) ≤ cond (nat_lt 1 k || alt) (1 + k) 1
    one_less k some alt = elim (eq-zero-or-pos (k - 1)) [
      | inl e ↦ subst (λ (j : ℕ). 1 + pointed_size alt (j - 1) ≤ cond (nat_lt 1 j || alt) (1 + j) 1) {x = 1} {y = k}
          (omega (arith, e, some)) (single alt)
      | inr more ↦ omega (arith, some_pointed alt (k - 1) more, many k (omega (arith, more)) alt)
    ]
      where
        single : (alt : Bool) → 1 + pointed_size alt (1 - 1) ≤ cond (nat_lt 1 1 || alt) (1 + 1) 1
        single true = omega arith
        single false = omega arith

general_most : (alt : Bool) (k : ℕ) (x : Float) → 0 < k → k ≤ 255
    → length (general_of alt k (number_of x k) (power_of x k)) ≤ cond (nat_lt 1 k || alt) (1 + k) 1 + 5
general_most alt k x some few = by (is_plain_power k (power_of x k)) refl
  where
    at_least : (a b : ℕ) → nat_le a b ≡ true → a ≤ b
    at_least a b h = grind (arith, nat_tests)

    room : (k : ℕ) → 0 < k → (alt : Bool) → k + 5 ≤ cond (nat_lt 1 k || alt) (1 + k) 1 + 5
    room k some alt = elim (eq-zero-or-pos (k - 1)) [
      | inl e ↦ subst (λ (j : ℕ). j + 5 ≤ cond (nat_lt 1 j || alt) (1 + j) 1 + 5) {x = 1} {y = k} (omega (arith, e, some)) (single alt)
      | inr more ↦ omega (arith, many k (omega (arith, more)) alt)
    ]
      where
        single : (alt : Bool) → 1 + 5 ≤ cond (nat_lt 1 1 || alt) (1 + 1) 1 + 5
        single true = omega arith
        single false = omega arith

    by : (t : Bool) → is_plain_power k (power_of x k) ≡ t
        → length (cond t (fixed_of alt (kept_of 10 alt (k + 399 - power_of x k) (number_of x k))
        (cut_to 10 (k + 399 - power_of x k) (number_of x k) (kept_of 10 alt (k + 399 - power_of x k) (number_of x k))))
        (exponent_of alt (kept_of 10 alt (k - 1) (number_of x k))
        (cut_to 10 (k - 1) (number_of x k) (kept_of 10 alt (k - 1) (number_of x k))) (power_of x k)))
        ≤ cond (nat_lt 1 k || alt) (1 + k) 1 + 5
    by true h =
        let t = and_both (nat_le 396 (power_of x k)) (nat_lt (power_of x k) (400 + k)) h in
        let low : 396 ≤ power_of x k = at_least 396 (power_of x k) t.0 in
        let high : power_of x k < 400 + k = ltb-true (power_of x k) (400 + k) t.1 in
        omega (
          arith,
          general_plain_most alt k (number_of x k) (power_of x k) some low high (number_fits x k (omega (arith, high, few))),
          room k some alt,
        )
    by false h = general_raised_most alt k (number_of x k) (power_of x k) some

-- ---- the style of a

binary_most : (power : ℕ) → power ≤ 2046 → length (binary_exponent_of power) ≤ 6
binary_most power low =
    let size : ℕ = (power - 1022) + (1022 - power) in
    omega (arith, binary_exponent_size power, count_most 0 size 4 (omega arith) (omega (arith, low)))

hex_numeral_most : (alt : Bool) (precision : Option ℕ) (m : ℕ)
    → length (hex_numeral_of alt precision m) ≤ 1 + pointed_size alt (unwrap_or precision 13)
hex_numeral_most alt None m =
    let kept : ℕ = needed_of 16 13 m in
    omega (arith, hex_size alt kept (cut_to 16 13 m kept), pointed_most alt kept 13 (needed_most 16 13 m))
hex_numeral_most alt (Some d) m = omega (arith, hex_size alt d (closest (m * 16 ^ d) (2 ^ 52)))

hexadecimal_most : (alt : Bool) (precision : Option ℕ) (x : Float)
    → length (digits_text Hexadecimal alt precision x) ≤ 7 + pointed_size alt (unwrap_or precision 13)
hexadecimal_most alt precision x =
    let m : ℕ = binary_number_of x in
    let power : ℕ = binary_power m (two_power_of x) in
    omega (
      arith,
      length-append (hex_numeral_of alt precision m) (binary_exponent_of power),
      hex_numeral_most alt precision m,
      binary_most power (by (nat_lt 0 m)),
    )
  where
    by : (t : Bool) → cond t (two_power_of x) 1022 ≤ 2046
    by true = two_power_most x
    by false = omega arith

-- ---- the digits

max_few : (n : ℕ) → n ≤ 255 → max n 1 ≤ 255
max_few n h = omega (arith, h)

pub digits_most : (l : FloatStyle) (c : PrintConv) (x : Float) → T (fits binary64 x) → unwrap_or c.precision 6 ≤ 255
    → length (digits_text (style_of (letter.Float l false)) c.alt c.precision x) ≤ longest_digits l c
digits_most style.Fixed c x f few = omega (arith, fixed_most c.alt (unwrap_or c.precision 6) x f)
digits_most style.Exponent c x f few =
    let d : ℕ = unwrap_or c.precision 6 in
    let p : ℕ = power_of x (d + 1) in
    omega (arith, exponent_of_size c.alt d (number_of x (d + 1)) p, exponent_most (exponent_size p))
digits_most style.General c x f few =
    let k : ℕ = max (unwrap_or c.precision 6) 1 in
    subst (λ (j : ℕ). length (general_of c.alt k (number_of x j) (power_of x j)) ≤ cond (nat_lt 1 k || c.alt) (1 + k) 1 + 5)
    {x = k} {y = k - 1 + 1} (omega (arith, some_digit (unwrap_or c.precision 6)))
    (general_most c.alt k x (some_digit (unwrap_or c.precision 6)) (max_few (unwrap_or c.precision 6) few))
digits_most style.Hexadecimal c x f few = omega (arith, hexadecimal_most c.alt c.precision x)

-- ---- the text

filled_most : (z : Bool) (w h v k n most : ℕ) → h + v ≤ 1 → n ≤ most
    → size_by (z && true) w h v k n ≤ cond z (max (1 + k + most) w) (1 + k + most)
filled_most true w h v k n most one low = omega arith
filled_most false w h v k n most one low = omega arith

by_letter : (k : PrintLetter) → style_of (letter.Float (written_style k) false) ≡ style_of k
by_letter (letter.Float style.Fixed u) = refl
by_letter (letter.Float style.Exponent u) = refl
by_letter (letter.Float style.General u) = refl
by_letter (letter.Float style.Hexadecimal u) = refl
by_letter letter.Text = refl
by_letter letter.One = refl
by_letter _ = refl

by_mark : (l : FloatStyle) → cond (is_hexadecimal (style_of (letter.Float l false))) 2 0 ≡ mark_digits l
by_mark style.Fixed = refl
by_mark style.Exponent = refl
by_mark style.General = refl
by_mark style.Hexadecimal = refl

-- without what fills a width
pub bare_most : (c : PrintConv) → unwrap_or c.precision 6 ≤ 255 → (bits : ℕ) → float_is_finite (from_bits binary64 bits) ≡ true
    → (let f = float_conv c in let x = from_bits binary64 bits in
    hidden f x + length (bare_sign f x) + length (mark f x) + length (size_of f x)) ≤ longest_float c
bare_most c few bits finite =
    let f : FloatConv = float_conv c in
    let x : Float = from_bits binary64 bits in
    let l : FloatStyle = written_style c.letter in
    let same : style_of (letter.Float l false) ≡ style_of c.letter = by_letter c.letter in
    let digits : length (digits_text f.style f.alt f.precision x) ≤ longest_digits l c =
    subst (λ (s : Style). length (digits_text s c.alt c.precision x) ≤ longest_digits l c) same
    (digits_most l c x (of_bits-fits binary64 bits) few) in
    let marked : length (mark f x) ≡ mark_digits l = mark_size f x finite ∙ ap (λ (s : Style). cond (is_hexadecimal s) 2 0) (sym same)
    ∙ by_mark l in
    within c.zero c.width (hidden f x) (length (bare_sign f x)) (length (mark f x)) (mark_digits l) (length (size_of f x))
    (longest_digits l c) ((signs_of f x).here) marked (omega (arith, case_length f.upper (digits_text f.style f.alt f.precision x), digits))
  where
    within : (z : Bool) (w h v m k n most : ℕ) → h + v ≤ 1 → m ≡ k → n ≤ most → h + v + m + n ≤ cond z (max (1 + k + most) w) (1 + k + most)
    within true w h v m k n most one same low = omega (arith, one, same, low)
    within false w h v m k n most one same low = omega (arith, one, same, low)

pub none_is_longer : (c : PrintConv) → c.minus ≡ false → unwrap_or c.precision 6 ≤ 255 → NoneIsLonger c (longest_float c)
none_is_longer c right few bits finite =
    let f : FloatConv = float_conv c in
    let x : Float = from_bits binary64 bits in
    let l : FloatStyle = written_style c.letter in
    let same : style_of (letter.Float l false) ≡ style_of c.letter = by_letter c.letter in
    let digits : length (digits_text f.style f.alt f.precision x) ≤ longest_digits l c =
    subst (λ (s : Style). length (digits_text s c.alt c.precision x) ≤ longest_digits l c) same
    (digits_most l c x (of_bits-fits binary64 bits) few) in
    let mark : length (mark f x) ≡ mark_digits l = mark_size f x finite ∙ ap (λ (s : Style). cond (is_hexadecimal s) 2 0) (sym same)
    ∙ by_mark l in
    let pads : (c.zero && not c.minus) ≡ (c.zero && true) = ap (λ (t : Bool). c.zero && not t) right in
    let size : length (body f x) ≡ size_by (c.zero && true) c.width (hidden f x) (length (bare_sign f x)) (mark_digits l)
    (length (size_of f x)) = body_size f x finite
    ∙ (λ i. size_by (pads i) c.width (hidden f x) (length (bare_sign f x)) (mark i) (length (size_of f x))) in
    omega (
      arith,
      ap length (seen_is f x finite right),
      size,
      filled_most c.zero c.width (hidden f x) (length (bare_sign f x)) (mark_digits l) (length (size_of f x)) (longest_digits l c)
          ((signs_of f x).here) (omega (arith, case_length f.upper (digits_text f.style f.alt f.precision x), digits)),
    )
