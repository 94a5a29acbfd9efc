-- The whole number closest to a / b, from half of a quotient of 2 * a.
use Rattle.std.proofs.Common.{◌≡◌, ℕ, zero, suc, ◌+◌, ◌-◌, ◌*◌, ◌/◌, ◌%◌, ◌<◌, ◌≤◌, Bool, true, false, arith, ap, ◌∙◌}
use Prim.Native.Nat.compare
use Prim.Native.Nat.{compare, Ordering}
use lib.Arith.{digits_div, digits_mod}
use lib.Ieee.{nearest}
use lib.Ieee.Nearest.{closest}
use Rattle.sf_float.specs.Quotient.{IsQuotient}

compare-lt : (a b : ℕ) → a < b → compare a b ≡ Ordering.lt
compare-lt zero (suc b) h = compare.zero-suc b
compare-lt (suc a) (suc b) h = compare.suc-suc a b ∙ compare-lt a b (omega arith)
compare-lt a zero h = absurd (omega arith)

compare-eq : (a b : ℕ) → a ≡ b → compare a b ≡ Ordering.eq
compare-eq zero zero h = compare.zero-zero
compare-eq (suc a) (suc b) h = compare.suc-suc a b ∙ compare-eq a b (omega arith)
compare-eq zero (suc b) h = absurd (omega arith)
compare-eq (suc a) zero h = absurd (omega arith)

compare-gt : (a b : ℕ) → b < a → compare a b ≡ Ordering.gt
compare-gt (suc a) zero h = compare.suc-zero a
compare-gt (suc a) (suc b) h = compare.suc-suc a b ∙ compare-gt a b (omega arith)
compare-gt zero b h = absurd (omega arith)

module _ (n u q : ℕ) (from : q * u ≤ n) (below : n < q * u + u) where
  at_whole : closest n u ≡ nearest q (compare ((n - q * u) * 2) u)
  at_whole =
      let e : n ≡ q * u + (n - q * u) = omega arith in
      let l : n - q * u < u = omega arith in
      let d : n / u ≡ q = ap (λ x. x / u) e ∙ digits_div q l in
      let m : n % u ≡ n - q * u = ap (λ x. x % u) e ∙ digits_mod q l in
      λ i. nearest (d i) (compare (m i * 2) u)

  -- below, at and above the point halfway from q to q + 1
  pub closest_below : 2 * n < 2 * (q * u) + u → closest n u ≡ q
  closest_below h = at_whole ∙ ap (nearest q) (compare-lt _ _ (omega arith))

  pub closest_tie : 2 * n ≡ 2 * (q * u) + u → closest n u ≡ q + q % 2
  closest_tie h = at_whole ∙ ap (nearest q) (compare-eq _ _ (omega arith))

  pub closest_above : 2 * (q * u) + u < 2 * n → closest n u ≡ suc q
  closest_above h = at_whole ∙ ap (nearest q) (compare-gt _ _ (omega arith))

-- half of a quotient: with nothing decimals its half, at the half, and above it
pub even_half : (a b n q : ℕ) (lost : Bool) → 0 < b → n ≡ q * 2 → IsQuotient (2 * a) b n lost → closest a b ≡ q
even_half a b n q false B e h =
    let k : 2 * a ≡ 2 * (q * b) = omega (arith, h, ap (λ t. t * b) e) in
    closest_below a b q (omega arith) (omega arith) (omega arith)
even_half a b n q true B e h =
    let k : 2 * a ≡ 2 * (q * b) + h.0 = omega (arith, h.1, ap (λ t. t * b) e) in
    let l : h.0 < b = h.3 in
    closest_below a b q (omega arith) (omega arith) (omega arith)

pub odd_half : (a b n q : ℕ) → 0 < b → n ≡ q * 2 + 1 → IsQuotient (2 * a) b n false → closest a b ≡ q + q % 2
odd_half a b n q B e h =
    let k : 2 * a ≡ 2 * (q * b) + b = omega (arith, h, ap (λ t. t * b) e) in
    closest_tie a b q (omega arith) (omega arith) (omega arith)

pub above_half : (a b n q : ℕ) → 0 < b → n ≡ q * 2 + 1 → IsQuotient (2 * a) b n true → closest a b ≡ q + 1
above_half a b n q B e h =
    let k : 2 * a ≡ 2 * (q * b) + b + h.0 = omega (arith, h.1, ap (λ t. t * b) e) in
    let l : h.0 < b = h.3 in
    let s : 0 < h.0 = h.2 in
    let c : closest a b ≡ suc q = closest_above a b q (omega arith) (omega arith) (omega arith) in
    omega arith
