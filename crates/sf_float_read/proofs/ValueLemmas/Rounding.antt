-- From the whole number that is kept to the pattern of the nearest float.
use Rattle.std.proofs.Common.{◌≡◌, ℕ, suc, ◌+◌, ◌-◌, ◌*◌, ◌/◌, ◌^◌, ◌<◌, ◌≤◌, Bool, true, false, sym, ap, ◌∙◌, subst, inl, inr, arith}
use Rattle.std.proofs.Common.{pow-suc, mul-le-mul_right, mul-lt-mul_of_pos_right, mul-pos, pow_pos, pow_mono, eq-zero-or-pos}
use Rattle.std.proofs.Common.{lt_of_lt_of_le, div-lt_iff_lt-mul, le-div_iff_mul-le}
use Rattle.std.proofs.Math.Nat.{lt_of_not-le, not-le_of_lt, le_of_lt}
use Rattle.std.proofs.lemmas.Nat.{pow-add}
use lib.Ieee.{Format, prec, low, hid, size, units, round}
use lib.Ieee.Digits.{size-lt, size-le}
use lib.Ieee.Fits.{round_is}
use lib.Ieee.Nearest.{closest}
use Rattle.fast_float.specs.Rounding.{scaled_bits, IsNearestBits}
use Rattle.fast_float.proofs.Patterns.{shape, of_bits-scaled_bits}
use Rattle.sf_float.specs.Quotient.{IsQuotient}
use Rattle.sf_float.proofs.Closest.{closest_below}
use Rattle.sf_float.proofs.Powers.{closest_ge, closest_le}
use Rattle.sf_float_read.proofs.ValueLemmas.Cutting.{cut_bounds}

-- ---- the float at the whole number that is kept

size-gt : (n j : ℕ) → 2 ^ j ≤ n → j < size n
size-gt n j h = lt_of_not-le (λ (g : size n ≤ j). not-le_of_lt (lt_of_lt_of_le (size-lt n) (pow_mono g)) h)

regroup : (a b d : ℕ) → a * (d * b) ≡ a * b * d
regroup a b d = omega arith

dropped : (p k n den : ℕ) → 0 < p → 0 < den → (0 < k → 2 ^ (p - 1) * (den * 2 ^ k) ≤ n) → n < 2 ^ p * (den * 2 ^ k) → size (n / den) - p ≡ k
dropped p k n den P D lo hi =
    let joined : (j : ℕ) → 2 ^ j * (den * 2 ^ k) ≡ 2 ^ (j + k) * den =
    λ j. regroup (2 ^ j) (2 ^ k) den ∙ ap (λ x. x * den) (sym (pow-add 2 j k)) in
    let most : size (n / den) ≤ p + k = size-le (n / den) (p + k) ((div-lt_iff_lt-mul D).1 (subst (λ x. n < x) (joined p) hi)) in
    elim (eq-zero-or-pos k) [
      | inl z ↦ omega arith
      | inr K ↦
          let least : p - 1 + k < size (n / den) = size-gt (n / den) (p - 1 + k)
          ((le-div_iff_mul-le D).1 (subst (λ x. x ≤ n) (joined (p - 1)) (lo K))) in
          omega arith
    ]

round_at : (f : Format) (num den k : ℕ) → 0 < den → (0 < k → hid f * (den * 2 ^ k) ≤ num * 2 ^ low f)
    → num * 2 ^ low f < 2 ^ prec f * (den * 2 ^ k)
    → round f false num den ≡ units f false (closest (num * 2 ^ low f) (den * 2 ^ k)) k
round_at f num den k D lo hi =
    let s = shape f in
    round_is f false num den ∙ ap (λ x. units f false (closest (num * 2 ^ low f) (den * 2 ^ x)) x)
    (dropped (prec f) k (num * 2 ^ low f) den (omega arith) D lo hi)

-- between 2 ^ (prec - 1) and 2 ^ prec steps, or below where the step is the least number
pub nearest_at : (f : Format) (num den k : ℕ) → 0 < den → (0 < k → hid f * (den * 2 ^ k) ≤ num * 2 ^ low f)
    → num * 2 ^ low f < 2 ^ prec f * (den * 2 ^ k)
    → IsNearestBits f num den (scaled_bits f (closest (num * 2 ^ low f) (den * 2 ^ k)) k)
nearest_at f num den k D lo hi =
    let u = den * 2 ^ k in
    let n = num * 2 ^ low f in
    let U : 0 < u = mul-pos D (pow_pos k) in
    let M : closest n u ≤ 2 ^ prec f = closest_le (2 ^ prec f) n u U (le_of_lt hi) in
    (of_bits-scaled_bits f (closest n u) k M (λ K. closest_ge (hid f) n u U (lo K)) ∙ sym (round_at f num den k D lo hi), omega arith)

-- ---- where a number of so many binary digits lies

pub scaled_quotient : (n w m s : ℕ) (lost : Bool) → 0 < s → IsQuotient n w m lost → IsQuotient (n * s) (w * s) m lost
scaled_quotient n w m s true S h =
    (h.0 * s, ap (λ k. k * s) h.1 ∙ omega arith, mul-pos h.2 S, mul-lt-mul_of_pos_right h.3 S)
scaled_quotient n w m s false S h = ap (λ k. k * s) h ∙ omega arith

-- n is m * 2 ^ a and less than 2 ^ a more
module _ (n m a s : ℕ) (lost : Bool) (q : IsQuotient n (2 ^ a) m lost) (S : 0 < s) (from : 2 ^ (s - 1) ≤ m) (below : m < 2 ^ s) where
  parts : (rest : ℕ) × (n ≡ m * 2 ^ a + rest) × (rest < 2 ^ a)
  parts = cut_bounds n (2 ^ a) m lost (pow_pos a) q

  pub at_least : (t : ℕ) → t ≡ s - 1 + a → 2 ^ t ≤ n
  at_least t e =
      let p : 2 ^ t ≡ 2 ^ (s - 1) * 2 ^ a = ap (λ k. 2 ^ k) e ∙ pow-add 2 (s - 1) a in
      omega (arith, p, parts.1, mul-le-mul_right (2 ^ a) from)

  pub less_than : (t : ℕ) → s + a ≤ t → n < 2 ^ t
  less_than t l =
      let more : m + 1 ≤ 2 ^ s = omega arith in
      let p : 2 ^ (s + a) ≡ 2 ^ s * 2 ^ a = pow-add 2 s a in
      lt_of_lt_of_le (omega (arith, p, parts.1, parts.2, mul-le-mul_right (2 ^ a) more)) (pow_mono l)

closest_whole : (q u : ℕ) → 0 < u → closest (q * u) u ≡ q
closest_whole q u U = closest_below (q * u) u q (omega arith) (omega arith) (omega arith)

-- nothing was cut off, and the step is a part of 2 ^ a
pub closest_exact : (n m a b d : ℕ) → n ≡ m * 2 ^ a → a ≡ d + b → closest n (2 ^ b) ≡ m * 2 ^ d
closest_exact n m a b d e h =
    let p : m * 2 ^ a ≡ m * 2 ^ d * 2 ^ b = ap (λ k. m * 2 ^ k) h ∙ ap (λ k. m * k) (pow-add 2 d b) ∙ omega arith in
    ap (λ k. closest k (2 ^ b)) (e ∙ p) ∙ closest_whole (m * 2 ^ d) (2 ^ b) (pow_pos b)

-- a step that is far above
pub closest_none : (n b t : ℕ) → n < 2 ^ t → t < b → closest n (2 ^ b) ≡ 0
closest_none n b t h l =
    let e : 2 ^ suc t ≤ 2 ^ b = pow_mono l in
    let s : 2 ^ suc t ≡ 2 ^ t * 2 = pow-suc 2 t in
    closest_below n (2 ^ b) 0 (omega arith) (omega (arith, pow_pos b)) (omega (arith, e, s, h))
