-- The power of ten of a float's first digit.
use Rattle.std.proofs.Common.{◌≡◌, ℕ, zero, suc, ◌+◌, ◌-◌, ◌*◌, ◌^◌, ◌<◌, ◌≤◌, Bool, true, sym, ap, ◌∙◌, subst, inl, inr, arith}
use Rattle.std.proofs.Common.{eq-zero-or-pos, mul-le-mul_right, mul-le-mul_left, mul-pos, pow_pos, pow_mono, leb, ltb, T, ◌&&◌}
use Rattle.std.proofs.Common.{lt_of_mul-lt-mul_right, le_of_mul-le-mul_right, mul-lt-mul_of_pos_right}
use Rattle.std.proofs.lemmas.Nat.{pow-add}
use Rattle.std.proofs.Math.Nat.{lt_of_le_of_lt, lt_of_lt_of_le, le_of_lt, lt_of_not-le, not-le_of_lt}
use Rattle.std.proofs.Math.Pow.{shl_lt}
use Rattle.std.proofs.Math.Dec.{leb→le, ltb→lt}
use Rattle.std.specs.Float.Ieee.Nearest.{closest}
use lib.Ieee.Fits.{and_l, and_r}
use lib.Dec.{lit<}
use Rattle.sf_float.specs.Scaled.{guessed}
use Rattle.sf_float.proofs.Limbs.{power_pos}
use Rattle.sf_float.proofs.ReadBack.{bounds}

-- ---- each row of the guess

row : ℕ → Bool
row t = leb (10 ^ guessed t * 2 ^ 1074) (10 ^ 400 * 2 ^ t) && ltb (10 ^ 400 * 2 ^ t) (10 ^ (guessed t + 1) * 2 ^ 1074)

rows : ℕ → Bool
rows zero = true
rows (suc n) = row n && rows n

row_of : (n t : ℕ) → T (rows n) → t < n → T (row t)
unfolding row rows
row_of zero t h l = absurd (omega arith)
row_of (suc n) t h l =
    elim (eq-zero-or-pos (n - t)) [
      | inl z ↦ let e : n ≡ t = omega arith in subst (λ k. T (row k)) e (and_l (row n) (rows n) h)
      | inr p ↦ row_of n t (and_r (row n) (rows n) h) (omega arith)
    ]

all_rows : T (rows 2100)
unfolding row rows
all_rows = tt

pub guess_from : (t : ℕ) → t < 2100 → 10 ^ guessed t * 2 ^ 1074 ≤ 10 ^ 400 * 2 ^ t
unfolding row
guess_from t l = leb→le _ _ (and_l (leb (10 ^ guessed t * 2 ^ 1074) (10 ^ 400 * 2 ^ t)) _ (row_of 2100 t all_rows l))

pub guess_below : (t : ℕ) → t < 2100 → 10 ^ 400 * 2 ^ t < 10 ^ (guessed t + 1) * 2 ^ 1074
unfolding row
guess_below t l = ltb→lt _ _ (and_r (leb (10 ^ guessed t * 2 ^ 1074) (10 ^ 400 * 2 ^ t)) _ (row_of 2100 t all_rows l))

-- the same of m * 2 ^ up / 2 ^ down, where m has t + down - up - 1074 + 1 binary digits; w is 2 ^ 1074, and s is 10 ^ 400
module _ (t r up down m w s g h : ℕ) (e : t + down ≡ r + up + 1074) (W : 2 ^ 1074 ≡ w) (P : 0 < w) where
  split : 2 ^ t * 2 ^ down ≡ 2 ^ r * 2 ^ up * w
  split = sym (pow-add 2 t down) ∙ ap (λ k. 2 ^ k) e ∙ pow-add 2 (r + up) 1074 ∙ (λ j. pow-add 2 r up j * W j)

  pub size_from : g * w ≤ s * 2 ^ t → 2 ^ r ≤ m → g * 2 ^ down ≤ s * (m * 2 ^ up)
  size_from a b =
      le_of_mul-le-mul_right {k = w} (omega (
        arith,
        mul-le-mul_right (2 ^ down) a,
        ap (λ k. s * k) split,
        mul-le-mul_left s (mul-le-mul_right (2 ^ up * w) b),
      )) P

  pub size_below : 0 < s → s * 2 ^ t < h * w → m < 2 * 2 ^ r → s * (m * 2 ^ up) < 2 * h * 2 ^ down
  size_below S a b =
      let some : 0 < 2 ^ up * w = mul-pos (pow_pos up) P in
      let c : s * (m * (2 ^ up * w)) ≤ s * (2 * 2 ^ r * (2 ^ up * w)) = mul-le-mul_left s (mul-le-mul_right (2 ^ up * w) (le_of_lt b)) in
      lt_of_mul-lt-mul_right w (omega (arith, c, ap (λ k. s * k) split, mul-lt-mul_of_pos_right a (pow_pos down)))

-- ---- a fraction at a power of ten

tens : (i j d q : ℕ) → i + q ≡ 400 + (d + j) → 10 ^ i * 10 ^ q ≡ 10 ^ 400 * (10 ^ d * 10 ^ j)
tens i j d q e = sym (pow-add 10 i q) ∙ ap (λ k. 10 ^ k) e ∙ pow-add 10 400 (d + j) ∙ ap (λ k. 10 ^ 400 * k) (pow-add 10 d j)

module _ (s x y i j d q : ℕ) (S : s ≡ 10 ^ 400) (e : i + q ≡ 400 + (d + j)) where
  some_tens : 0 < s
  some_tens = subst (λ k. 0 < k) (sym S) (power_pos 10 400 (lit< tt))

  equal_tens : 10 ^ i * 10 ^ q ≡ s * (10 ^ d * 10 ^ j)
  equal_tens = tens i j d q e ∙ ap (λ k. k * (10 ^ d * 10 ^ j)) (sym S)

  pub at_least : 10 ^ q * y ≤ s * x → 10 ^ d * (y * 10 ^ j) ≤ x * 10 ^ i
  at_least h = le_of_mul-le-mul_right {k = s} (omega (arith, mul-le-mul_right (10 ^ i) h, ap (λ k. k * y) equal_tens)) some_tens

  pub at_most : s * x < 2 * 10 ^ q * y → x * 10 ^ i < 2 * 10 ^ d * (y * 10 ^ j)
  at_most h = lt_of_mul-lt-mul_right s (omega (arith, mul-lt-mul_of_pos_right h (power_pos 10 i (lit< tt)), ap (λ k. k * y) equal_tens))

-- ---- closest whole numbers in order

pub closest_ge : (n v u : ℕ) → 0 < u → n * u ≤ v → n ≤ closest v u
closest_ge n v u U h =
    let b = bounds v u U in
    elim (eq-zero-or-pos (n - closest v u)) [
      | inl z ↦ omega arith
      | inr p ↦ let l : closest v u + 1 ≤ n = omega arith in absurd (omega (arith, b.to, mul-le-mul_right u l))
    ]

pub closest_le : (n v u : ℕ) → 0 < u → v ≤ n * u → closest v u ≤ n
closest_le n v u U h =
    let b = bounds v u U in
    elim (eq-zero-or-pos (closest v u - n)) [
      | inl z ↦ omega arith
      | inr p ↦ let l : n + 1 ≤ closest v u = omega arith in absurd (omega (arith, b.from, mul-le-mul_right u l))
    ]

-- a tenth of what has one digit more
pub tenth_up : (n v u : ℕ) → 0 < u → 10 * n ≤ closest (10 * v) u → n ≤ closest v u
tenth_up n v u U h =
    let a = bounds (10 * v) u U in
    let b = bounds v u U in
    elim (eq-zero-or-pos (n - closest v u)) [
      | inl z ↦ omega arith
      | inr p ↦ let l : closest v u + 1 ≤ n = omega arith in absurd
          (omega (arith, a.from, b.to, mul-le-mul_right u l, mul-le-mul_right u h))
    ]

pub tenth_down : (n v u : ℕ) → 0 < u → 10 * n ≤ closest v u → n ≤ closest v (10 * u)
tenth_down n v u U h =
    let a = bounds v u U in
    let b = bounds v (10 * u) (omega arith) in
    elim (eq-zero-or-pos (n - closest v (10 * u))) [
      | inl z ↦ omega arith
      | inr p ↦ let l : closest v (10 * u) + 1 ≤ n = omega arith in
          absurd (omega (arith, a.from, b.to, mul-le-mul_right u l, mul-le-mul_right u h))
    ]

pub few_digits : (r m : ℕ) → 2 ^ r ≤ m → m < 2 ^ 53 → r < 53
few_digits r m a b = lt_of_not-le (λ (g : 53 ≤ r). not-le_of_lt (lt_of_le_of_lt a b) (pow_mono g))

-- ---- the greatest whole number of a float times a power of ten

greatest : 2 ^ 1024 < 10 ^ 309
greatest = lit< tt

pub fixed_most : (m u d p : ℕ) → m < 2 ^ 53 → u < 972 → closest (m * 2 ^ u * 10 ^ p) (2 ^ d * 10 ^ 0) < 10 ^ (309 + p)
fixed_most m u d p M U =
    let step : 0 < 2 ^ d * 10 ^ 0 = mul-pos (pow_pos d) (power_pos 10 0 (lit< tt)) in
    let k : 53 + u ≤ 1024 = omega arith in
    let a : m * 2 ^ u ≤ 2 ^ 1024 = le_of_lt (lt_of_lt_of_le (shl_lt 53 u M) (pow_mono k)) in
    let b : m * 2 ^ u * 10 ^ p ≤ 2 ^ 1024 * 10 ^ p = mul-le-mul_right (10 ^ p) a in
    let c : 2 ^ 1024 * 10 ^ p * 1 ≤ 2 ^ 1024 * 10 ^ p * (2 ^ d * 10 ^ 0) = mul-le-mul_left (2 ^ 1024 * 10 ^ p) step in
    let l : closest (m * 2 ^ u * 10 ^ p) (2 ^ d * 10 ^ 0) ≤ 2 ^ 1024 * 10 ^ p =
    closest_le (2 ^ 1024 * 10 ^ p) _ _ step (omega (arith, b, c)) in
    let g : 2 ^ 1024 * 10 ^ p < 10 ^ 309 * 10 ^ p = mul-lt-mul_of_pos_right greatest (power_pos 10 p (lit< tt)) in
    rw (pow-add 10 309 p) (lt_of_le_of_lt l g)
