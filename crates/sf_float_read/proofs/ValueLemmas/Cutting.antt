-- A number of which some binary digits are cut off, rounded to those that are left.
use Rattle.std.proofs.Common.{◌≡◌, ℕ, suc, ◌+◌, ◌-◌, ◌*◌, ◌/◌, ◌%◌, ◌^◌, ◌<◌, ◌≤◌, Bool, true, false, sym, ap, ◌∙◌, arith, pow-suc}
use Rattle.std.proofs.Common.{mul-le-mul_right, mul-lt-mul_of_pos_right, pow_pos, div-add-mod', mod-lt}
use Rattle.std.specs.Float.Ieee.Nearest.{closest}
use Rattle.sf_float.specs.Quotient.{IsQuotient}
use Rattle.sf_float.proofs.Closest.{closest_below, closest_tie, closest_above}

-- n is m units and less than one more
pub cut_bounds : (n w m : ℕ) (lost : Bool) → 0 < w → IsQuotient n w m lost → (rest : ℕ) × (n ≡ m * w + rest) × (rest < w)
cut_bounds n w m true W h = (h.0, h.1, h.3)
cut_bounds n w m false W h = (0, h ∙ omega arith, W)

module _ (n w m q h t r : ℕ) (W : 0 < w) (e : n ≡ m * w + r) (R : r < w) (d : m ≡ q * (2 * h) + t) (T : t < 2 * h) where
  spread : n ≡ q * (w * (2 * h)) + t * w + r
  spread = e ∙ ap (λ k. k * w + r) d ∙ omega arith

  within : t * w + w ≤ w * (2 * h)
  within = let l : t + 1 ≤ 2 * h = omega arith in omega (arith, mul-le-mul_right w l)

  pub cut_below : t < h → closest n (w * (2 * h)) ≡ q
  cut_below l =
      let k : t + 1 ≤ h = omega arith in
      let p : (t + 1) * w ≤ h * w = mul-le-mul_right w k in
      closest_below n (w * (2 * h)) q (omega (arith, spread)) (omega (arith, spread, within)) (omega (arith, spread, p))

  pub cut_above : h < t → closest n (w * (2 * h)) ≡ q + 1
  cut_above l =
      let p : h * w < t * w = mul-lt-mul_of_pos_right l W in
      closest_above n (w * (2 * h)) q (omega (arith, spread)) (omega (arith, spread, within)) (omega (arith, spread, p)) ∙ omega arith

  pub cut_more : t ≡ h → 0 < r → closest n (w * (2 * h)) ≡ q + 1
  cut_more l s =
      let p : t * w ≡ h * w = ap (λ k. k * w) l in
      closest_above n (w * (2 * h)) q (omega (arith, spread)) (omega (arith, spread, within)) (omega (arith, spread, p)) ∙ omega arith

  pub cut_tie : t ≡ h → r ≡ 0 → closest n (w * (2 * h)) ≡ q + q % 2
  cut_tie l s =
      let p : t * w ≡ h * w = ap (λ k. k * w) l in
      closest_tie n (w * (2 * h)) q (omega (arith, spread)) (omega (arith, spread, within)) (omega (arith, spread, p))

-- by the quotient and the rest of m by 2 ^ cut
halved : (cut : ℕ) → 0 < cut → 2 ^ cut ≡ 2 * 2 ^ (cut - 1)
halved cut C = let e : cut ≡ suc (cut - 1) = omega arith in ap (λ k. 2 ^ k) e ∙ pow-suc 2 (cut - 1) ∙ omega arith

module _ (n w m cut c : ℕ) (lost : Bool) (C : 0 < cut) (W : 0 < w) (power : c ≡ 2 ^ cut) (p : IsQuotient n w m lost) where
  twice : c ≡ 2 * 2 ^ (cut - 1)
  twice = power ∙ halved cut C

  some : 0 < c
  some = omega (arith, twice, pow_pos (cut - 1))

  parts : m ≡ m / c * (2 * 2 ^ (cut - 1)) + m % c
  parts = sym (div-add-mod' m c) ∙ ap (λ k. m / c * k + m % c) twice

  small : m % c < 2 * 2 ^ (cut - 1)
  small = omega (arith, mod-lt m some, twice)

  bounds : (rest : ℕ) × (n ≡ m * w + rest) × (rest < w)
  bounds = cut_bounds n w m lost W p

  at : (q : ℕ) → closest n (w * (2 * 2 ^ (cut - 1))) ≡ q → closest n (w * 2 ^ cut) ≡ q
  at q e = ap (λ k. closest n (w * k)) (sym power ∙ twice) ∙ e

  pub rounded_down : 2 * (m % c) < c → closest n (w * 2 ^ cut) ≡ m / c
  rounded_down h = at _ (cut_below n w m (m / c) (2 ^ (cut - 1)) (m % c) bounds.0 W bounds.1 bounds.2 parts small (omega (arith, h, twice)))

  pub rounded_up : c < 2 * (m % c) → closest n (w * 2 ^ cut) ≡ m / c + 1
  rounded_up h = at _ (cut_above n w m (m / c) (2 ^ (cut - 1)) (m % c) bounds.0 W bounds.1 bounds.2 parts small (omega (arith, h, twice)))

pub lost_up : (n w m cut c : ℕ) → 0 < cut → 0 < w → c ≡ 2 ^ cut → IsQuotient n w m true → 2 * (m % c) ≡ c
    → closest n (w * 2 ^ cut) ≡ m / c + 1
lost_up n w m cut c C W power p h =
    at n w m cut c true C W power p _
    (cut_more n w m (m / c) (2 ^ (cut - 1)) (m % c) p.0 W p.1 p.3 (parts n w m cut c true C W power p) (small n w m cut c true C W power p)
    (omega (arith, h, twice n w m cut c true C W power p)) p.2)

pub tie_even : (n w m cut c : ℕ) → 0 < cut → 0 < w → c ≡ 2 ^ cut → IsQuotient n w m false → 2 * (m % c) ≡ c
    → closest n (w * 2 ^ cut) ≡ m / c + m / c % 2
tie_even n w m cut c C W power p h =
    at n w m cut c false C W power p _
    (cut_tie n w m (m / c) (2 ^ (cut - 1)) (m % c) 0 W (p ∙ omega arith) W (parts n w m cut c false C W power p)
    (small n w m cut c false C W power p) (omega (arith, h, twice n w m cut c false C W power p)) (omega arith))
