-- The power of ten of a float's first digit.
use Rattle.std.proofs.Common.{◌≡◌, ℕ, zero, suc, ◌+◌, ◌-◌, ◌*◌, ◌/◌, ◌^◌, ◌<◌, ◌≤◌, Bool, true, false, nat_lt, refl, sym, ap, ◌∙◌, subst}
use Rattle.std.proofs.Common.{inl, inr, arith, eq-zero-or-pos, eq-or-lt_of_le, mul-pos, mul-le-mul_right, mul-le-mul_left, true≢false}
use Rattle.std.proofs.Common.{lt-ltb, le-ltb, div-lt_iff_lt-mul, le_of_mul-le-mul_right, lt_of_not-le, not-le_of_lt, lt_of_lt_of_le}
use Rattle.std.proofs.Common.{pow_pos, pow_mono, not}
use Rattle.std.proofs.lemmas.Nat.{pow-add}
use Rattle.std.proofs.Math.Nat.{pow-le-pow_right, le_trans, le-div_iff_mul-le, mul-le-mul}
use Rattle.std.specs.Float.Ieee.{Float, Format, nan, inf, fin, neg, of_bits}
use Rattle.std.specs.Float.Ieee.Exact.{HasValue}
use lib.Dec.{lit<}
use Rattle.ryu.specs.Sign.{IsSignAndSize}
use Rattle.sf_float.specs.Computed.{first_passing}
use Rattle.sf_float.specs.Quotient.{IsQuotient}
use Rattle.sf_float.proofs.Limbs.{power_pos}
use Rattle.sf_float.proofs.Powers.{at_least, at_most}
use Rattle.sf_float.specs.fewest.Cut.{IsCut}
use Rattle.sf_float.specs.fewest.Digits.{cut, first_power}
use Rattle.sf_float.proofs.FewestLemmas.Cuts.{cut_of_value, cut_is}

-- ---- bounds of quotients

pub quotient_most : (a d n k : ℕ) (lost : Bool) → 0 < d → a < k * d → IsQuotient a d n lost → n < k
quotient_most a d n k false D l q = lt_of_not-le (λ (g : k ≤ n). absurd (omega (arith, q, l, mul-le-mul_right d g)))
quotient_most a d n k true D l q = lt_of_not-le (λ (g : k ≤ n). absurd (omega (arith, q.1, l, mul-le-mul_right d g)))

pub quotient_least : (a d n k : ℕ) (lost : Bool) → 0 < d → k * d ≤ a → IsQuotient a d n lost → k ≤ n
quotient_least a d n k false D l q = go
  where
    go : k ≤ n
    go = elim (eq-zero-or-pos (k - n)) [
      | inl z ↦ omega arith
      | inr p ↦ (let m : suc n ≤ k = omega arith in absurd (omega (arith, q, l, D, mul-le-mul_right d m)))
    ]
quotient_least a d n k true D l q = go
  where
    go : k ≤ n
    go = elim (eq-zero-or-pos (k - n)) [
      | inl z ↦ omega arith
      | inr p ↦ (let m : suc n ≤ k = omega arith in absurd (omega (arith, q.1, q.3, l, D, mul-le-mul_right d m)))
    ]

-- what is below a quotient that is less than k
pub below_quotient : (a d n k : ℕ) (lost : Bool) → 0 < d → n < k → IsQuotient a d n lost → a < k * d
below_quotient a d n k false D l q = let m : suc n * d ≤ k * d = mul-le-mul_right d l in omega (arith, q, m, D)
below_quotient a d n k true D l q = let m : suc n * d ≤ k * d = mul-le-mul_right d l in omega (arith, q.1, q.3, m)

pub from_quotient : (a d n k : ℕ) (lost : Bool) → k ≤ n → IsQuotient a d n lost → k * d ≤ a
from_quotient a d n k false l q = omega (arith, q, mul-le-mul_right d l)
from_quotient a d n k true l q = omega (arith, q.1, mul-le-mul_right d l)

-- ---- the least number that passes a test

passing_is : (test : ℕ → Bool) (k i n : ℕ) (b : Bool) → test i ≡ b → i ≤ n → n ≤ i + k → test n ≡ true
    → ((q : ℕ) → i ≤ q → q < n → test q ≡ false)
    → first_passing test k b i ≡ n
passing_is test zero i n b is low high passes least = omega arith
passing_is test (suc k) i n true is low high passes least =
    elim (eq-or-lt_of_le low) [
      | inl e ↦ e
      | inr l ↦ absurd (true≢false (sym is ∙ least i (omega arith) l))
    ]
passing_is test (suc k) i n false is low high passes least =
    elim (eq-or-lt_of_le low) [
      | inl e ↦ absurd (true≢false (sym passes ∙ ap test (sym e) ∙ is))
      | inr l ↦ passing_is test k (suc i) n (test (suc i)) refl l (omega arith) passes (λ q from. least q (omega arith))
    ]

-- ---- a size x / d whose first digit is that of 10 ^ (p - 400)

module _ (x d p : ℕ) (D : 0 < d) where
  pub twice_from : 10 ^ p * d ≤ 10 ^ 400 * x → 2 * 10 ^ 16 * (d * 10 ^ (p - 416)) ≤ 2 * (x * 10 ^ (416 - p))
  twice_from h =
      let e : 416 - p + p ≡ 400 + (16 + (p - 416)) = omega arith in
      let l = at_least (10 ^ 400) x d (416 - p) (p - 416) 16 p refl e h in
      omega (arith, l)

  pub twice_below : 10 ^ 400 * x < 2 * 10 ^ (p + 1) * d → 2 * (x * 10 ^ (416 - p)) < 4 * 10 ^ 17 * (d * 10 ^ (p - 416))
  twice_below h =
      let e : 416 - p + (p + 1) ≡ 400 + (17 + (p - 416)) = omega arith in
      let l = at_most (10 ^ 400) x d (416 - p) (p - 416) 17 (p + 1) refl e h in
      omega (arith, l)

  -- the other way
  pub next_from : 2 * 10 ^ 17 * (d * 10 ^ (p - 416)) ≤ 2 * (x * 10 ^ (416 - p)) → 10 ^ (p + 1) * d ≤ 10 ^ 400 * x
  next_from h =
      let i = 416 - p in
      let j = p - 416 in
      let e : i + (p + 1) ≡ 400 + (17 + j) = omega arith in
      let t : 10 ^ i * 10 ^ (p + 1) ≡ 10 ^ 400 * (10 ^ 17 * 10 ^ j) = sym (pow-add 10 i (p + 1)) ∙ ap (λ k. 10 ^ k) e
      ∙ pow-add 10 400 (17 + j) ∙ ap (λ k. 10 ^ 400 * k) (pow-add 10 17 j) in
      within (10 ^ 400) (10 ^ 17) (10 ^ i) (10 ^ j) (10 ^ (p + 1)) (power_pos 10 i (lit< tt)) t (omega (arith, h))
    where
      within : (s v y z w : ℕ) → 0 < y → y * w ≡ s * (v * z) → v * (d * z) ≤ x * y → w * d ≤ s * x
      within s v y z w Y t h = le_of_mul-le-mul_right {k = y} (omega (arith, mul-le-mul_left s h, ap (λ k. k * d) t)) Y

module _ (y : Float) (s : Bool) (x d p : ℕ) (D : 0 < d) (value : HasValue y s x d) (few : p ≤ 1000) (from : 10 ^ p * d ≤ 10 ^ 400 * x)
    (below : x * 10 ^ (416 - p) < 10 ^ 17 * (d * 10 ^ (p - 416))) where
  step : (j : ℕ) → 0 < d * 10 ^ j
  step j = mul-pos D (power_pos 10 j (lit< tt))

  -- there is one digit
  one : nat_lt (cut y p) 10 ≡ true
  one =
      let e : p - 0 ≡ p = omega arith in
      let c : x * 10 ^ (400 - p) / (d * 10 ^ (p - 400)) ≡ x * 10 ^ (416 - p) / (10 ^ 16 * (d * 10 ^ (p - 416))) =
      subst (λ q. x * 10 ^ (400 - q) / (d * 10 ^ (q - 400)) ≡ x * 10 ^ (416 - p) / (10 ^ 16 * (d * 10 ^ (p - 416)))) e
      (cut_is x d p 0 D (omega arith) (omega arith)) in
      let u : 0 < 10 ^ 16 * (d * 10 ^ (p - 416)) = mul-pos (power_pos 10 16 (lit< tt)) (step (p - 416)) in
      let l : x * 10 ^ (416 - p) / (10 ^ 16 * (d * 10 ^ (p - 416))) < 10 = (div-lt_iff_lt-mul u).1 (omega (arith, below)) in
      lt-ltb _ _ (rw (cut_of_value y s x d p D value, c) l)

  -- further down there are more
  more : (q : ℕ) → 0 ≤ q → q < p → nat_lt (cut y q) 10 ≡ false
  more q z l =
      let i = 400 - q in
      let j = q - 400 in
      let e : i + (q + 1) ≡ 400 + (1 + j) = omega arith in
      let up : 10 ^ (q + 1) ≤ 10 ^ p = pow-le-pow_right {n = 10} (lit< tt) (omega (arith, l)) in
      let h = at_least (10 ^ 400) x d i j 1 (q + 1) refl e (le_trans (mul-le-mul_right d up) from) in
      let m : 10 ≤ x * 10 ^ i / (d * 10 ^ j) = (le-div_iff_mul-le (step j)).1 h in
      le-ltb _ _ (rw (cut_of_value y s x d q D value) m)

  pub first_is : p ≡ first_power y
  unfolding first_power
  first_is = sym (passing_is (λ q. nat_lt (cut y q) 10) 1000 0 p _ refl (omega arith) (omega (arith, few)) one more)

-- ---- with a sign

neg_value : (y : Float) (a c : ℕ) → HasValue y false a c → HasValue (neg y) true a c
unfolding neg
neg_value nan a c h = h
neg_value (inf s) a c h = h
neg_value (fin s m e) a c h = (ap not h.0, h.1)

pub signed_value : (f : Format) (x : Float) (negative : Bool) (bits a c : ℕ) → IsSignAndSize f x negative bits
    → HasValue (of_bits f bits) false a c → HasValue x negative a c
signed_value f x true bits a c p h = subst (λ y. HasValue y true a c) p.same (neg_value (of_bits f bits) a c h)
signed_value f x false bits a c p h = subst (λ y. HasValue y false a c) p.same h

-- ---- what is kept of a float

module _ (y : Float) (s : Bool) (x d p n : ℕ) (lost : Bool) (D : 0 < d) (value : HasValue y s x d) (few : p < 900)
    (from : 10 ^ p * d ≤ 10 ^ 400 * x) (below : 10 ^ 400 * x < 2 * 10 ^ (p + 1) * d)
    (q : IsQuotient (2 * (x * 10 ^ (416 - p))) (d * 10 ^ (p - 416)) n lost) where
  unit : (j : ℕ) → 0 < d * 10 ^ j
  unit j = mul-pos D (power_pos 10 j (lit< tt))

  pub kept : n < 2 * 10 ^ 17 → IsCut y p n lost
  kept l =
      let u = unit (p - 416) in
      let b = below_quotient _ _ n (2 * 10 ^ 17) lost u l q in
      record {
        negative = s;
        a = x;
        c = d;
        some = D;
        value = value;
        quotient = q;
        first_is = first_is y s x d p D value (omega (arith, few)) from (omega (arith, b));
        full = quotient_least _ _ n (2 * 10 ^ 16) lost u (twice_from x d p D from) q;
        fits = l;
      }

  pub kept_next : (t : ℕ) (more : Bool) → 2 * 10 ^ 17 ≤ n → t ≡ n / 10
      → IsQuotient (2 * (x * 10 ^ (416 - (p + 1)))) (d * 10 ^ (p + 1 - 416)) t more → IsCut y (p + 1) t more
  kept_next t more l e r =
      let u = unit (p - 416) in
      let up : 10 ^ (p + 1) * d ≤ 10 ^ 400 * x = next_from x d p D (from_quotient _ _ n (2 * 10 ^ 17) lost l q) in
      let few_n : n < 4 * 10 ^ 17 = quotient_most _ _ n (4 * 10 ^ 17) lost u (twice_below x d p D below) q in
      let b : t < 2 * 10 ^ 17 = omega (arith, e, few_n) in
      let c = below_quotient _ _ t (2 * 10 ^ 17) more (unit (p + 1 - 416)) b r in
      record {
        negative = s;
        a = x;
        c = d;
        some = D;
        value = value;
        quotient = r;
        first_is = first_is y s x d (p + 1) D value (omega (arith, few)) up (omega (arith, c));
        full = quotient_least _ _ t (2 * 10 ^ 16) more (unit (p + 1 - 416)) (twice_from x d (p + 1) D up) r;
        fits = b;
      }

-- a number of 18 digits at most
pub long_most : (x d p n : ℕ) (lost : Bool) → 0 < d → 10 ^ 400 * x < 2 * 10 ^ (p + 1) * d
    → IsQuotient (2 * (x * 10 ^ (416 - p))) (d * 10 ^ (p - 416)) n lost → n < 10 ^ 18
long_most x d p n lost D below q =
    let l = quotient_most _ _ n (4 * 10 ^ 17) lost (mul-pos D (power_pos 10 (p - 416) (lit< tt))) (twice_below x d p D below) q in
    omega (arith, l)

-- the power is not far down
pub few_tens : (m up down p : ℕ) → 0 < m → down ≤ 1074 → 10 ^ 400 * (m * 2 ^ up) < 2 * 10 ^ (p + 1) * 2 ^ down → 16 ≤ p
few_tens m up down p M l h =
    elim (eq-zero-or-pos (16 - p)) [
      | inl z ↦ omega arith
      | inr g ↦
          let a : 1 ≤ m * 2 ^ up = mul-pos M (pow_pos up) in
          let b : 10 ^ (p + 1) ≤ 10 ^ 16 = pow-le-pow_right {n = 10} (lit< tt) {j = 16} (omega arith) in
          let c : 2 ^ down ≤ 2 ^ 1074 = pow_mono l in
          let s : 10 ^ (p + 1) * 2 ^ down ≤ 10 ^ 16 * 2 ^ 1074 = mul-le-mul b c in
          let t : 2 * (10 ^ 16 * 2 ^ 1074) < 10 ^ 400 * 1 = lit< tt in
          absurd (not-le_of_lt (lt_of_lt_of_le t (mul-le-mul_left (10 ^ 400) a)) (omega (arith, h, s)))
    ]
