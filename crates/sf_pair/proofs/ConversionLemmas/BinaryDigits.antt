-- The computed binary digits of a finite double are those that the definitions ask for.
use Rattle.std.proofs.Common.{◌≡◌, inl, inr, ℕ, zero, suc, ◌+◌, ◌-◌, ◌*◌, ◌/◌, ◌%◌, ◌^◌, ◌<◌, ◌≤◌, Bool, true, false, ◌&&◌, nat_lt, nat_le}
use Rattle.std.proofs.Common.{nat_eq, T, pos, negsuc, Option, Some, None, refl, sym, ap, ◌∙◌, subst, arith, eq-zero-or-pos, mul-div_cancel}
use Rattle.std.proofs.Common.{pow_pos, pow-suc, div-lt_iff_lt-mul, lt_of_mul-lt-mul_right, mul-lt-mul_of_pos_right}
use Rattle.std.proofs.Math.Nat.{pow-le-pow_right, zero-div}
use lib.Dec.{lit<}
use lib.Ieee.Fits.{down_pos, and_l, and_r}
use Rattle.std.proofs.lemmas.Nat.{pow-add}
use Rattle.std.proofs.lemmas.Bool.{lt-ltb, ltb-true}
use Rattle.std.specs.Float.{float_is_finite}
use Rattle.std.specs.Float.Ieee.{Float, nan, inf, fin, up, down, fits, binary64}
use Rattle.std.specs.Float.Ieee.Exact.{HasValue}
use Rattle.sf_float.specs.Hexadecimal.{IsBinary, binary_power, IsHexNumeral, IsHexadecimalText}
use Rattle.sf_float.specs.Computed.{least_passing, count_of, needed_of, cut_to, units_of, two_power_of, binary_number_of, hex_numeral_of}
use Rattle.sf_float.specs.Computed.{binary_exponent_of, hexadecimal_of}
use Rattle.sf_pair.proofs.ConversionLemmas.RealSizes.{passing}
use Rattle.sf_pair.proofs.ConversionLemmas.LongestReals.{reached, t_less}
use Rattle.sf_pair.proofs.ConversionLemmas.SignificantDigits.{all_failing, not_below, least_down}
use Rattle.sf_pair.proofs.ConversionLemmas.ShortenedDigits.{count_right, shortened_right}
use Rattle.sf_pair.proofs.ConversionLemmas.EnoughDigits.{the_zero}

-- its size is a whole number of 2 ^ -1074
record Units (s : Bool) (m : ℕ) (e : _) : Type 0 where
  high : ℕ
  value : m * up e * 2 ^ 1074 ≡ m * 2 ^ high * down e

units_at : (s : Bool) (m : ℕ) (e : _) → down e ≤ 2 ^ 1074 → Units s m e
units_at s m (pos k) low = record {
  high = k + 1074;
  value = ap (λ (t : ℕ). t) (regroup m (2 ^ k) (2 ^ 1074)) ∙ ap (λ (t : ℕ). m * t * 1) (sym (pow-add 2 k 1074));
}
  where
    regroup : (a b c : ℕ) → a * b * c ≡ a * (b * c) * 1
    regroup a b c = omega arith
units_at s m (negsuc k) low = record {
  high = 1074 - suc k;
  value = ap (λ (t : ℕ). m * 1 * t) whole ∙ regroup m (2 ^ (1074 - suc k)) (2 ^ suc k);
}
  where
    regroup : (a b c : ℕ) → a * 1 * (b * c) ≡ a * b * c
    regroup a b c = omega arith

    few : suc k ≤ 1074
    few = elim (eq-zero-or-pos (suc k - 1074)) [
      | inl none ↦ omega (arith, none)
      | inr past ↦
          let more : 2 ^ suc 1074 ≤ 2 ^ suc k = pow-le-pow_right {n = 2} (lit< tt) {i = suc 1074} (omega (arith, past)) in
          absurd (omega (arith, more, low, pow-suc 2 1074, pow_pos 1074))
    ]

    whole : 2 ^ 1074 ≡ 2 ^ (1074 - suc k) * 2 ^ suc k
    whole = ap (λ (j : ℕ). 2 ^ j) {x = 1074} {y = 1074 - suc k + suc k} (omega (arith, few)) ∙ pow-add 2 (1074 - suc k) (suc k)

-- a size of fewer than 54 binary digits, and zeros
module _ (x : Float) (s : Bool) (m high : ℕ) (value : HasValue x s (m * 2 ^ high) (2 ^ 1074)) (some : 0 < m) (few : m < 2 ^ 53)
    (units : units_of x ≡ m * 2 ^ high) (small : m * 2 ^ high < 2 ^ 2098) where
  test : ℕ → Bool
  test p = nat_lt (units_of x / 2 ^ p) (2 ^ 53)

  p : ℕ
  p = two_power_of x

  p_is : p ≡ least_passing test 2046 0
  unfolding two_power_of p test
  p_is = refl

  below_high : p ≤ high
  unfolding p test
  below_high =
      let left : units_of x / 2 ^ high ≡ m = ap (λ (t : ℕ). t / 2 ^ high) units ∙ mul-div_cancel m (pow_pos high) in
      omega (arith, p_is, reached test 2046 0 high (test 0) refl (omega arith) (lt-ltb _ _ (omega (arith, left, few))))

  below_last : p ≤ 2045
  unfolding p test
  below_last =
      let whole : 2 ^ 2098 ≡ 2 ^ 53 * 2 ^ 2045 = pow-add 2 53 2045 in
      let left : units_of x / 2 ^ 2045 < 2 ^ 53 = (div-lt_iff_lt-mul (pow_pos 2045)).1 (omega (arith, units, small, whole)) in
      omega (arith, p_is, reached test 2046 0 2045 (test 0) refl (omega arith) (lt-ltb _ _ left))

  n : ℕ
  n = binary_number_of x

  split : units_of x ≡ n * 2 ^ p
  unfolding n p
  split =
      let whole : 2 ^ high ≡ 2 ^ (high - two_power_of x) * 2 ^ two_power_of x =
      ap (λ (j : ℕ). 2 ^ j) {x = high} {y = high - two_power_of x + two_power_of x} (omega (arith, below_high))
      ∙ pow-add 2 (high - two_power_of x) (two_power_of x) in
      let is : units_of x ≡ m * 2 ^ (high - two_power_of x) * 2 ^ two_power_of x =
      units ∙ ap (λ (t : ℕ). m * t) whole ∙ regroup m (2 ^ (high - two_power_of x)) (2 ^ two_power_of x) in
      let q : units_of x / 2 ^ two_power_of x ≡ m * 2 ^ (high - two_power_of x) =
      ap (λ (t : ℕ). t / 2 ^ two_power_of x) is ∙ mul-div_cancel (m * 2 ^ (high - two_power_of x)) (pow_pos (two_power_of x)) in
      is ∙ ap (λ (t : ℕ). t * 2 ^ two_power_of x) (sym q)
    where
      regroup : (a b c : ℕ) → a * (b * c) ≡ a * b * c
      regroup a b c = omega arith

  binary_some : IsBinary x (binary_number_of x) (two_power_of x)
  unfolding n p test
  binary_some = record {
    negative = s;
    value = subst (λ (t : ℕ). HasValue x s t (2 ^ 1074)) (sym units ∙ split) value;
    most = elim (passing test 2046 0 (test 0) refl) [
      | inl passes ↦ ltb-true _ _ (subst (λ (k : ℕ). test k ≡ true) (sym p_is) passes)
      | inr last ↦ absurd (omega (arith, last, p_is, below_last))
    ];
    few = omega (arith, below_last);
    normal = λ positive.
        let before : ℕ = two_power_of x - 1 in
        let more : 2 ^ 53 ≤ units_of x / 2 ^ before = not_below _ _
        (all_failing test 2046 0 (test 0) refl before (omega arith) (omega (arith, p_is, positive))) in
        let whole : 2 ^ two_power_of x ≡ 2 ^ before * 2 = ap (λ (j : ℕ). 2 ^ j) {x = two_power_of x} {y = suc before}
        (omega (arith, positive)) ∙ pow-suc 2 before in
        let is : units_of x ≡ binary_number_of x * 2 * 2 ^ before = split ∙ ap (λ (t : ℕ). binary_number_of x * t) whole
        ∙ regroup (binary_number_of x) (2 ^ before) in
        let q : units_of x / 2 ^ before ≡ binary_number_of x * 2 = ap (λ (t : ℕ). t / 2 ^ before) is
        ∙ mul-div_cancel (binary_number_of x * 2) (pow_pos before) in
        omega (arith, more, q);
  }
    where
      regroup : (a b : ℕ) → a * (b * 2) ≡ a * 2 * b
      regroup a b = omega arith

-- ---- any finite double

finite_binary : (s : Bool) (m : ℕ) (e : _) → T (fits binary64 (fin s (suc m) e))
    → IsBinary (fin s (suc m) e) (binary_number_of (fin s (suc m) e)) (two_power_of (fin s (suc m) e))
unfolding fits
finite_binary s m e f =
    let odd : Bool = nat_eq (suc m % 2) 1 in
    let few : Bool = nat_lt (suc m) (2 ^ 53) in
    let low : Bool = nat_le (down e) (2 ^ 1074) in
    let small : Bool = nat_lt (suc m * up e) (2 ^ 1024 * down e) in
    let u = units_at s (suc m) e (least_down s m e f) in
    let is : units_of (fin s (suc m) e) ≡ suc m * 2 ^ u.high =
    ap (λ (t : ℕ). t / down e) u.value ∙ mul-div_cancel (suc m * 2 ^ u.high) (down_pos e) in
    let size : suc m * up e * 2 ^ 1074 < 2 ^ 1024 * down e * 2 ^ 1074 =
    mul-lt-mul_of_pos_right (t_less _ _ (and_r (odd && few && low) small f)) (pow_pos 1074) in
    let most : suc m * 2 ^ u.high < 2 ^ 2098 =
    lt_of_mul-lt-mul_right (down e) (omega (arith, size, u.value, pow-add 2 1024 1074, regroup (2 ^ 1024) (down e) (2 ^ 1074))) in
    binary_some (fin s (suc m) e) s (suc m) u.high (refl, u.value) (omega arith)
    (t_less _ _ (and_r odd few (and_l (odd && few) low (and_l (odd && few && low) small f)))) is most
  where
    regroup : (a b c : ℕ) → a * b * c ≡ a * c * b
    regroup a b c = omega arith

zero_power : (s : Bool) → two_power_of (fin s 0 (pos 0)) ≡ 0
unfolding two_power_of
zero_power s = refl

zero_binary : (s : Bool) → IsBinary (fin s 0 (pos 0)) (binary_number_of (fin s 0 (pos 0))) (two_power_of (fin s 0 (pos 0)))
zero_binary s =
    let none : binary_number_of (fin s 0 (pos 0)) ≡ 0 = zero-div (2 ^ two_power_of (fin s 0 (pos 0))) in
    record {
      negative = s;
      value = (refl, omega (arith, ap (λ (n : ℕ). n * 2 ^ two_power_of (fin s 0 (pos 0))) none));
      most = omega (arith, none, pow_pos 53);
      few = omega (arith, zero_power s);
      normal = λ some. absurd (omega (arith, some, zero_power s));
    }

pub binary_right : (x : Float) → T (fits binary64 x) → float_is_finite x ≡ true → IsBinary x (binary_number_of x) (two_power_of x)
unfolding float_is_finite
binary_right nan f finite = absurd cc
binary_right (inf s) f finite = absurd cc
binary_right (fin s zero e) f finite =
    subst (λ (x : Float). IsBinary x (binary_number_of x) (two_power_of x)) (sym (the_zero s e f)) (zero_binary s)
binary_right (fin s (suc m) e) f finite = finite_binary s m e f

-- ---- the text

numeral_right : (alt : Bool) (precision : Option ℕ) (m : ℕ) → IsHexNumeral alt precision m (hex_numeral_of alt precision m)
numeral_right alt None m = (needed_of 16 13 m, cut_to 16 13 m (needed_of 16 13 m), shortened_right 16 false 13 m (lit< tt), refl)
numeral_right alt (Some d) m = refl

pub hexadecimal_right : (x : Float) (alt : Bool) (precision : Option ℕ) → T (fits binary64 x) → float_is_finite x ≡ true
    → IsHexadecimalText alt precision x (hexadecimal_of alt precision x)
hexadecimal_right x alt precision f finite =
    let m : ℕ = binary_number_of x in
    let power : ℕ = two_power_of x in
    let p : ℕ = binary_power m power in
    let size : ℕ = (p - 1022) + (1022 - p) in (
      m,
      power,
      binary_right x f finite,
      (
        hex_numeral_of alt precision m,
        binary_exponent_of p,
        numeral_right alt precision m,
        (count_of 0 size, count_right 0 size, refl),
        refl,
      ),
    )
