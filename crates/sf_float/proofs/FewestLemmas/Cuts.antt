-- The decimals on both sides of a float, by the digits that are kept of it.
use Rattle.std.proofs.Common.{◌≡◌, ◌⊎◌, ℕ, suc, ◌+◌, ◌-◌, ◌*◌, ◌/◌, ◌%◌, ◌^◌, ◌<◌, ◌≤◌, Bool, true, false, refl, sym, ap, ◌∙◌, inl, inr}
use Rattle.std.proofs.Common.{arith, mul-pos, mul-le-mul_right, true≢false}
use Rattle.std.proofs.lemmas.Nat.{pow-add}
use Rattle.std.proofs.Math.Nat.{div-eq_of_lt-le}
use Rattle.std.proofs.lemmas.Bool.{eq-eqb, ne_eqb}
use Rattle.std.specs.Float.Ieee.{Float, nan, inf, fin, up, down}
use Rattle.std.specs.Float.Ieee.Exact.{HasValue}
use Rattle.std.specs.Float.Ieee.Nearest.{closest, closest_same}
use lib.Dec.{lit<}
use lib.Ieee.Fits.{down_pos}
use lib.Ieee.Nearest.{div_same}
use Rattle.sf_float.specs.Quotient.{IsQuotient}
use Rattle.sf_float.proofs.Closest.{closest_below, closest_tie, closest_above}
use Rattle.sf_float.proofs.Limbs.{power_pos}
use Rattle.sf_float.proofs.ReadBack.{scaled_of_value}
use Rattle.sf_float.specs.fewest.Cut.{IsCut}
use Rattle.sf_float.specs.fewest.Digits.{cut, near, other}

-- ---- a size as any fraction

pub cut_of_value : (x : Float) (s : Bool) (a c last : ℕ) → 0 < c → HasValue x s a c
    → cut x last ≡ a * 10 ^ (400 - last) / (c * 10 ^ (last - 400))
cut_of_value nan s a c last C h = absurd h
cut_of_value (inf t) s a c last C h = absurd h
cut_of_value (fin t m e) s a c last C h =
    let i = 400 - last in
    let j = last - 400 in
    div_same (m * up e * 10 ^ i) (down e * 10 ^ j) (a * 10 ^ i) (c * 10 ^ j) (mul-pos (down_pos e) (power_pos 10 j (lit< tt)))
    (mul-pos C (power_pos 10 j (lit< tt))) (omega (arith, ap (λ t. t * 10 ^ i * 10 ^ j) h.1))

-- ---- steps of fewer digits are so many of those of 17 digits

module _ (a c first k : ℕ) (C : 0 < c) (K : k ≤ 16) (F : k ≤ first) where
  abbrev last : ℕ
  last = first - k

  abbrev half : ℕ
  half = 10 ^ (16 - k)

  abbrev size : ℕ
  size = a * 10 ^ (416 - first)

  abbrev step : ℕ
  step = c * 10 ^ (first - 416)

  pub step_some : 0 < step
  step_some = mul-pos C (power_pos 10 (first - 416) (lit< tt))

  pub half_some : 0 < half
  half_some = power_pos 10 (16 - k) (lit< tt)

  tens : 10 ^ (416 - first) * 10 ^ (last - 400) ≡ half * (10 ^ (400 - last) * 10 ^ (first - 416))
  tens =
      let e : 416 - first + (last - 400) ≡ 16 - k + (400 - last + (first - 416)) = omega arith in
      sym (pow-add 10 (416 - first) (last - 400)) ∙ ap (λ t. 10 ^ t) e ∙ pow-add 10 (16 - k) (400 - last + (first - 416))
      ∙ ap (λ t. half * t) (pow-add 10 (400 - last) (first - 416))

  pub same : a * 10 ^ (400 - last) * (half * step) ≡ size * (c * 10 ^ (last - 400))
  same = omega (arith, ap (λ t. a * c * t) tens)

  pub near_is : closest (a * 10 ^ (400 - last)) (c * 10 ^ (last - 400)) ≡ closest size (half * step)
  near_is = closest_same _ _ _ _ (mul-pos C (power_pos 10 (last - 400) (lit< tt))) (mul-pos half_some step_some) same

  pub cut_is : a * 10 ^ (400 - last) / (c * 10 ^ (last - 400)) ≡ size / (half * step)
  cut_is = div_same _ _ _ _ (mul-pos C (power_pos 10 (last - 400) (lit< tt))) (mul-pos half_some step_some) same

-- ---- a whole number of steps of 2 * h parts, and so many parts

pub record IsParted (n u h low rest : ℕ) (lost : Bool) : Type 0 where
  pub more : ℕ
  pub is : 2 * n ≡ 2 * (low * (h * u)) + rest * u + more
  pub less : more < u
  pub none : lost ≡ false → more ≡ 0
  pub some : lost ≡ true → 0 < more

pub parted : (n u h low rest twice : ℕ) (lost : Bool) → 0 < u → twice ≡ low * (2 * h) + rest → IsQuotient (2 * n) u twice lost
    → IsParted n u h low rest lost
parted n u h low rest twice false U e q = record {
  more = 0;
  is = omega (arith, q, ap (λ t. t * u) e);
  less = U;
  none = λ l. refl;
  some = λ l. absurd (true≢false (sym l));
}
parted n u h low rest twice true U e q = record {
  more = q.0;
  is = omega (arith, q.1, ap (λ t. t * u) e);
  less = q.3;
  none = λ l. absurd (true≢false l);
  some = λ l. q.2;
}

module _ (n u h low rest : ℕ) (lost : Bool) (p : IsParted n u h low rest lost) (few : rest < 2 * h) where
  from : low * (h * u) ≤ n
  from = omega (arith, p.is)

  below : n < low * (h * u) + h * u
  below = let m : suc rest * u ≤ 2 * h * u = mul-le-mul_right u few in omega (arith, p.is, p.less, m)

  pub floor_is : n / (h * u) ≡ low
  floor_is = div-eq_of_lt-le (h * u) from (omega (arith, below))

  pub near_below : rest < h → closest n (h * u) ≡ low
  near_below l =
      let m : suc rest * u ≤ h * u = mul-le-mul_right u l in
      closest_below n (h * u) low from below (omega (arith, p.is, p.less, m))

  pub near_above : h < rest → 0 < u → closest n (h * u) ≡ low + 1
  near_above l U =
      let m : suc h * u ≤ rest * u = mul-le-mul_right u l in
      closest_above n (h * u) low from below (omega (arith, p.is, m)) ∙ omega arith

  pub near_lost : rest ≡ h → lost ≡ true → closest n (h * u) ≡ low + 1
  near_lost e l = closest_above n (h * u) low from below (omega (arith, p.is, ap (λ t. t * u) e, p.some l)) ∙ omega arith

  pub near_tie : rest ≡ h → lost ≡ false → closest n (h * u) ≡ low + low % 2
  near_tie e l = closest_tie n (h * u) low from below (omega (arith, p.is, ap (λ t. t * u) e, p.none l))

-- ---- the decimals on both sides

pub other_above : (x : Float) (last low : ℕ) → cut x last ≡ low → near x last ≡ low → low + 1 ≡ other x last
other_above x last low c n = rw (c, n, eq-eqb low low refl) refl

pub other_below : (x : Float) (last low : ℕ) → cut x last ≡ low → near x last ≡ low + 1 → low ≡ other x last
other_below x last low c n = rw (c, n, ne_eqb (low + 1) low (λ e. absurd (omega (arith, e)))) refl

module _ (x : Float) (first twice k low rest : ℕ) (lost : Bool) (K : k ≤ 16) (F : k ≤ first) (z : IsCut x first twice lost)
    (e : twice ≡ low * (2 * 10 ^ (16 - k)) + rest) (few : rest < 2 * 10 ^ (16 - k)) where
  abbrev n : ℕ
  n = z.a * 10 ^ (416 - first)

  abbrev u : ℕ
  u = z.c * 10 ^ (first - 416)

  abbrev h : ℕ
  h = 10 ^ (16 - k)

  p : IsParted n u h low rest lost
  p = parted n u h low rest twice lost (step_some z.a z.c first k z.some K F) e z.quotient

  near_as : near x (first - k) ≡ closest n (h * u)
  near_as = scaled_of_value x z.negative z.a z.c _ _ z.some z.value ∙ near_is z.a z.c first k z.some K F

  pub cut_low : cut x (first - k) ≡ low
  cut_low = cut_of_value x z.negative z.a z.c (first - k) z.some z.value ∙ cut_is z.a z.c first k z.some K F
      ∙ floor_is n u h low rest lost p few

  pub near_low : (rest < h) ⊎ (rest ≡ h) × (lost ≡ false) × (low % 2 ≡ 0) → near x (first - k) ≡ low
  near_low (inl l) = near_as ∙ near_below n u h low rest lost p few l
  near_low (inr t) = near_as ∙ near_tie n u h low rest lost p few t.0 t.1 ∙ omega (arith, t.2)

  pub near_high : (h < rest) ⊎ (rest ≡ h) × ((lost ≡ true) ⊎ (low % 2 ≡ 1)) → near x (first - k) ≡ low + 1
  near_high (inl l) = near_as ∙ near_above n u h low rest lost p few l (step_some z.a z.c first k z.some K F)
  near_high (inr (t, inl l)) = near_as ∙ near_lost n u h low rest lost p few t l
  near_high (inr (t, inr o)) = near_as ∙ by lost refl
    where
      by : (b : Bool) → lost ≡ b → closest n (h * u) ≡ low + 1
      by true l = near_lost n u h low rest lost p few t l
      by false l = near_tie n u h low rest lost p few t l ∙ omega (arith, o)
