-- The first digit of a float, and those decimals it.
use Rattle.std.proofs.Common.{◌≡◌, ℕ, ◌+◌, ◌-◌, ◌*◌, ◌^◌, ◌<◌, ◌≤◌, Bool, refl, ap, ◌∙◌, subst, inl, inr, arith, eq-zero-or-pos}
use Rattle.std.proofs.Common.{mul-le-mul_right, mul-pos, pow_mono}
use Rattle.std.proofs.lemmas.Nat.{pow-add}
use Rattle.std.proofs.Math.Nat.{pow-le-pow_right, lt_of_le_of_lt, le_trans, le_of_lt, mul-le-mul}
use Rattle.std.specs.Float.Ieee.{Float, nan, inf, fin, up, down}
use Rattle.std.specs.Float.Ieee.Exact.{HasValue}
use Rattle.std.specs.Float.Ieee.Nearest.{closest}
use lib.Ieee.Fits.{up_pos}
use lib.Dec.{lit<}
use Rattle.sf_float.specs.Limbs.{limb_weight}
use Rattle.sf_float.specs.Scaled.{scaled, scaled_at, IsSignificant, is_zero}
use Rattle.sf_float.proofs.Limbs.{power_pos}
use Rattle.sf_float.proofs.Values.{fixed_room}
use Rattle.sf_float.proofs.Powers.{at_least, at_most, closest_ge, closest_le, tenth_up, tenth_down}

module _ (x : Float) (X D d p : ℕ) (P : 0 < D) (some : 0 < d) (at : (i j : ℕ) → scaled x i j ≡ closest (X * 10 ^ i) (D * 10 ^ j))
    (from : 10 ^ p * D ≤ 10 ^ 400 * X) (below : 10 ^ 400 * X < 2 * 10 ^ (p + 1) * D) where
  step : (j : ℕ) → 0 < D * 10 ^ j
  step j = mul-pos P (power_pos 10 j (lit< tt))

  less : (q : ℕ) → q < p → 10 ^ d ≤ scaled_at x d q
  less q l =
      let i = d + 399 - q in
      let j = q - (d + 399) in
      let e : i + (q + 1) ≡ 400 + (d + j) = omega arith in
      let a : 10 ^ (q + 1) ≤ 10 ^ p = pow-le-pow_right (lit< tt) (omega arith) in
      rw (at i j) (closest_ge (10 ^ d) (X * 10 ^ i) (D * 10 ^ j) (step j)
      (at_least (10 ^ 400) X D i j d (q + 1) refl e (le_trans (mul-le-mul_right D a) from)))

  full : 10 ^ (d - 1) ≤ scaled_at x d p
  full =
      let i = d + 399 - p in
      let j = p - (d + 399) in
      let e : i + p ≡ 400 + (d - 1 + j) = omega arith in
      rw (at i j) (closest_ge (10 ^ (d - 1)) (X * 10 ^ i) (D * 10 ^ j) (step j) (at_least (10 ^ 400) X D i j (d - 1) p refl e from))

  ten : 10 ^ d ≡ 10 * 10 ^ (d - 1)
  ten = let e : d ≡ 1 + (d - 1) = omega arith in ap (λ k. 10 ^ k) e ∙ pow-add 10 1 (d - 1)

  pub first : (n : ℕ) → n ≡ scaled_at x d p → n < 10 ^ d → IsSignificant x d n p
  first n e l = record { is = e; fits = l; full = rw e full; least = less }

  next_fits : scaled_at x d (p + 1) < 10 ^ d
  next_fits =
      let i = d + 399 - (p + 1) in
      let j = p + 1 - (d + 399) in
      let e : i + (p + 1) ≡ 400 + (d - 1 + j) = omega arith in
      let h = at_most (10 ^ 400) X D i j (d - 1) (p + 1) refl e below in
      let l : closest (X * 10 ^ i) (D * 10 ^ j) ≤ 2 * 10 ^ (d - 1) = closest_le _ (X * 10 ^ i) (D * 10 ^ j) (step j) (le_of_lt h) in
      rw (at i j) (omega (arith, l, ten, power_pos 10 (d - 1) (lit< tt)))

  next_full : 10 ^ d ≤ scaled_at x d p → 10 ^ (d - 1) ≤ scaled_at x d (p + 1)
  next_full h =
      elim (eq-zero-or-pos (d + 399 - p)) [
        | inl z ↦
            let j = p - (d + 399) in
            let a : d + 399 - (p + 1) ≡ 0 = omega arith in
            let b : p + 1 - (d + 399) ≡ j + 1 = omega arith in
            let c : D * 10 ^ (j + 1) ≡ 10 * (D * 10 ^ j) = omega (arith, ap (λ k. D * k) (pow-add 10 j 1)) in
            let m : 10 * 10 ^ (d - 1) ≤ closest (X * 10 ^ 0) (D * 10 ^ j) = rw (z, at 0 j, ten) at h in
            rw (a, b, at 0 (j + 1), c) (tenth_down (10 ^ (d - 1)) (X * 10 ^ 0) (D * 10 ^ j) (step j) m)
        | inr l ↦
            let i = d + 399 - (p + 1) in
            let a : d + 399 - p ≡ i + 1 = omega arith in
            let z : p - (d + 399) ≡ 0 = omega arith in
            let b : p + 1 - (d + 399) ≡ 0 = omega arith in
            let c : X * 10 ^ (i + 1) ≡ 10 * (X * 10 ^ i) = omega (arith, ap (λ k. X * k) (pow-add 10 i 1)) in
            let m : 10 * 10 ^ (d - 1) ≤ closest (10 * (X * 10 ^ i)) (D * 10 ^ 0) = rw (a, z, at (i + 1) 0, c, ten) at h in
            rw (b, at i 0) (tenth_up (10 ^ (d - 1)) (X * 10 ^ i) (D * 10 ^ 0) (step 0) m)
      ]

  pub next : (n : ℕ) → 10 ^ d ≤ scaled_at x d p → n ≡ scaled_at x d (p + 1) → IsSignificant x d n (p + 1)
  next n many e =
      record {
        is = e;
        fits = rw e next_fits;
        full = rw e (next_full many);
        least = λ q l. elim (eq-zero-or-pos (p - q)) [
          | inl z ↦ (let s : p ≡ q = omega arith in
              subst (λ k. 10 ^ d ≤ scaled_at x d k) s many)
          | inr k ↦ less q (omega arith)
        ];
      }

-- ---- room

most : 4 * 10 ^ 256 * 2 ^ 1074 < limb_weight 65
unfolding limb_weight
most = lit< tt

pub scaled_room : (m u v i j d q : ℕ) → m < 2 ^ 53 → u < 972 → v ≤ 1074 → d ≤ 256 → (0 < i → j ≡ 0) → i + q ≡ 400 + (d + j)
    → 10 ^ 400 * (m * 2 ^ u) < 2 * 10 ^ q * 2 ^ v → m * 2 ^ (u + 1) * 10 ^ i < limb_weight 65
scaled_room m u v i j d q M U V N one e h =
    elim (eq-zero-or-pos i) [
      | inl z ↦ rw z (fixed_room m u 0 M U (omega arith))
      | inr l ↦
          let a = at_most (10 ^ 400) (m * 2 ^ u) (2 ^ v) i j d q refl e h in
          let b : m * 2 ^ u * 10 ^ i < 2 * 10 ^ d * (2 ^ v * 1) = rw (one l) at a in
          let c : 10 ^ d * 2 ^ v ≤ 10 ^ 256 * 2 ^ 1074 = mul-le-mul (pow-le-pow_right (lit< tt) N) (pow_mono V) in
          let t : m * 2 ^ (u + 1) * 10 ^ i ≡ 2 * (m * 2 ^ u * 10 ^ i) = omega (arith, ap (λ k. m * k * 10 ^ i) (pow-add 2 u 1)) in
          lt_of_le_of_lt (omega (arith, t, b, c)) most
    ]

-- ---- zero

pub zero_of_value : (x : Float) (s : Bool) (a c : ℕ) → 0 < c → a ≡ 0 → HasValue x s a c → is_zero x
zero_of_value nan s a c C z h = absurd h
zero_of_value (inf t) s a c C z h = absurd h
zero_of_value (fin t m e) s a c C z h =
    elim (eq-zero-or-pos m) [
      | inl k ↦ k
      | inr p ↦ let k : 0 < m * up e * c = mul-pos (mul-pos p (up_pos e)) C in absurd (omega (arith, k, h.1, ap (λ t. t * down e) z))
    ]
