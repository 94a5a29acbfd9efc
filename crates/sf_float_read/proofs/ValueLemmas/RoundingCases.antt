-- The two cases of a rounding: the lowest digit that is kept is above the least number, or is it.
use Rattle.std.proofs.Common.{◌≡◌, ℕ, ◌+◌, ◌-◌, ◌*◌, ◌/◌, ◌^◌, ◌<◌, ◌≤◌, Bool, true, false, refl, sym, ap, ◌∙◌, subst, arith, pow_pos}
use Rattle.std.proofs.Common.{pow_mono, lt_of_lt_of_le, mul-le-mul_right, div-lt_iff_lt-mul}
use Rattle.std.proofs.Math.Nat.{lt_of_le_of_lt, lt_of_not-le, not-le_of_lt}
use Rattle.std.proofs.Math.Pow.{shl_lt}
use Rattle.std.proofs.lemmas.Nat.{pow-add}
use lib.Ieee.{Format, prec, low, hid, ones}
use lib.Ieee.Nearest.{closest}
use Rattle.fast_float.specs.Rounding.{scaled_bits, IsNearestBits}
use Rattle.fast_float.proofs.Patterns.{shape}
use Rattle.sf_float.specs.Quotient.{IsQuotient}
use Rattle.sf_float.proofs.Powers.{closest_le}
use Rattle.sf_float_read.proofs.ValueLemmas.Rounding.{nearest_at, at_least, less_than, scaled_quotient, closest_exact, closest_none}

pub few_kept : (f : Format) → prec f ≤ 53
few_kept f = (shape f).digits.1

pub few_bits : (r m : ℕ) → 2 ^ r ≤ m → m < 2 ^ 60 → r < 60
few_bits r m a b = lt_of_not-le (λ (g : 60 ≤ r). not-le_of_lt (lt_of_le_of_lt a b) (pow_mono g))

-- where digits were lost, there are more than a float has
long_enough : (s m : ℕ) → 2 ^ 56 ≤ m → m < 2 ^ s → 57 ≤ s
long_enough s m a b = lt_of_not-le (λ (g : s ≤ 56). not-le_of_lt (lt_of_le_of_lt a b) (pow_mono g))

-- with so many digits left
pub cut_few : (m s p : ℕ) → m < 2 ^ s → p < s → p ≤ 53 → m / 2 ^ (s - p) + 1 ≤ 2 ^ 53
cut_few m s p h l g =
    let e : p + (s - p) ≡ s = omega arith in
    let w : 2 ^ s ≡ 2 ^ p * 2 ^ (s - p) = ap (λ t. 2 ^ t) (sym e) ∙ pow-add 2 p (s - p) in
    let d : m / 2 ^ (s - p) < 2 ^ p = (div-lt_iff_lt-mul (pow_pos (s - p))).1 (subst (λ t. m < t) w h) in
    let k : 2 ^ p ≤ 2 ^ 53 = pow_mono g in
    omega arith

pub grown_few : (m s j : ℕ) → m < 2 ^ s → s + j ≤ 53 → m * 2 ^ j < 2 ^ 53
grown_few m s j h l = lt_of_lt_of_le (shl_lt s j h) (pow_mono l)

exact_of : (n w m s p : ℕ) (lost : Bool) → (lost ≡ true → 2 ^ 56 ≤ m) → m < 2 ^ s → s ≤ p → p ≤ 53 → IsQuotient n w m lost → n ≡ m * w
exact_of n w m s p true known h l g q = let k = long_enough s m (known refl) h in absurd (omega arith)
exact_of n w m s p false known h l g q = q

-- the greatest field and more is infinity
pub infinite_at : (f : Format) (m k : ℕ) → 2100 < k → scaled_bits f m k ≡ ones f * hid f
infinite_at f m k h =
    let s = shape f in
    let l : ones f ≤ k = omega arith in
    let p : ones f * hid f ≤ k * hid f = mul-le-mul_right (hid f) l in
    omega arith

module _ (f : Format) (n m up down s k : ℕ) (lost : Bool) (q : IsQuotient n (2 ^ up) m lost) (S : 0 < s) (from : 2 ^ (s - 1) ≤ m)
    (below : m < 2 ^ s) where
  pub above : IsQuotient (n * 2 ^ low f) (2 ^ (up + low f)) m lost
  above = subst (λ w. IsQuotient (n * 2 ^ low f) w m lost) (sym (pow-add 2 up (low f)))
      (scaled_quotient n (2 ^ up) m (2 ^ low f) lost (pow_pos (low f)) q)

  step : 2 ^ down * 2 ^ k ≡ 2 ^ (down + k)
  step = sym (pow-add 2 down k)

  pub normal : 0 < k → s + (up + low f) ≡ k + (prec f + down) → IsNearestBits f n (2 ^ down)
      (scaled_bits f (closest (n * 2 ^ low f) (2 ^ down * 2 ^ k)) k)
  normal K e =
      let p = shape f in
      let lo : hid f * (2 ^ down * 2 ^ k) ≡ 2 ^ (prec f - 1 + (down + k)) =
      ap (λ t. 2 ^ (prec f - 1) * t) step ∙ sym (pow-add 2 (prec f - 1) (down + k)) in
      let hi : 2 ^ prec f * (2 ^ down * 2 ^ k) ≡ 2 ^ (prec f + (down + k)) =
      ap (λ t. 2 ^ prec f * t) step ∙ sym (pow-add 2 (prec f) (down + k)) in
      nearest_at f n (2 ^ down) k (pow_pos down)
      (λ _. subst (λ t. t ≤ n * 2 ^ low f) (sym lo) (at_least (n * 2 ^ low f) m (up + low f) s lost above S from below
      (prec f - 1 + (down + k)) (omega (arith, p.digits.0))))
      (subst (λ t. n * 2 ^ low f < t) (sym hi) (less_than (n * 2 ^ low f) m (up + low f) s lost above S from below (prec f + (down + k))
      (omega arith)))

  pub normal_cut : (whole : ℕ) → 0 < k → s + (up + low f) ≡ k + (prec f + down) → prec f < s
      → closest (n * 2 ^ low f) (2 ^ (up + low f) * 2 ^ (s - prec f)) ≡ whole
      → IsNearestBits f n (2 ^ down) (scaled_bits f whole k)
  normal_cut whole K e l c =
      let d : down + k ≡ up + low f + (s - prec f) = omega arith in
      let u : 2 ^ down * 2 ^ k ≡ 2 ^ (up + low f) * 2 ^ (s - prec f) = step ∙ ap (λ t. 2 ^ t) d ∙ pow-add 2 (up + low f) (s - prec f) in
      subst (λ t. IsNearestBits f n (2 ^ down) (scaled_bits f t k)) (ap (closest (n * 2 ^ low f)) u ∙ c) (normal K e)

  pub normal_exact : (lost ≡ true → 2 ^ 56 ≤ m) → 0 < k → s + (up + low f) ≡ k + (prec f + down) → s ≤ prec f
      → IsNearestBits f n (2 ^ down) (scaled_bits f (m * 2 ^ (prec f - s)) k)
  normal_exact known K e l =
      let p = shape f in
      let d : up + low f ≡ prec f - s + (down + k) = omega arith in
      let x : n * 2 ^ low f ≡ m * 2 ^ (up + low f) = exact_of (n * 2 ^ low f) (2 ^ (up + low f)) m s
      (prec f) lost known below l p.digits.1 above in
      subst (λ t. IsNearestBits f n (2 ^ down) (scaled_bits f t k))
      (ap (closest (n * 2 ^ low f)) step ∙ closest_exact (n * 2 ^ low f) m (up + low f) (down + k) (prec f - s) x d) (normal K e)

module _ (f : Format) (n m a down s : ℕ) (lost : Bool) (q : IsQuotient (n * 2 ^ low f) (2 ^ a) m lost) (S : 0 < s) (from : 2 ^ (s - 1) ≤ m)
    (below : m < 2 ^ s) (range : s + a ≤ prec f + down) where
  one : 2 ^ down * 2 ^ 0 ≡ 2 ^ down
  one = omega arith

  least : (whole : ℕ) → closest (n * 2 ^ low f) (2 ^ down) ≡ whole → IsNearestBits f n (2 ^ down) whole
  least whole c =
      let p = shape f in
      let few : n * 2 ^ low f < 2 ^ (prec f + down) = less_than (n * 2 ^ low f) m a s lost q S from below (prec f + down) range in
      let some : n * 2 ^ low f ≤ 2 ^ prec f * 2 ^ down = omega (arith, few, pow-add 2 (prec f) down) in
      let most : closest (n * 2 ^ low f) (2 ^ down) ≤ 2 ^ prec f = closest_le (2 ^ prec f) (n * 2 ^ low f) (2 ^ down) (pow_pos down) some in
      let M : whole ≤ 2 ^ prec f = omega (arith, most, c) in
      let two : 2 * hid f ≤ ones f * hid f = let t : 2 ≤ ones f = omega arith in mul-le-mul_right (hid f) t in
      let same : scaled_bits f whole 0 ≡ whole = omega arith in
      let hi : 2 ^ prec f * (2 ^ down * 2 ^ 0) ≡ 2 ^ (prec f + down) = ap (λ t. 2 ^ prec f * t) one ∙ sym (pow-add 2 (prec f) down) in
      subst (IsNearestBits f n (2 ^ down)) (ap (λ t. scaled_bits f t 0) (ap (closest (n * 2 ^ low f)) one ∙ c) ∙ same)
      (nearest_at f n (2 ^ down) 0 (pow_pos down) (λ z. absurd (omega arith)) (subst (λ t. n * 2 ^ low f < t) (sym hi) few))

  pub least_none : s ≤ 60 → a + 62 < down → IsNearestBits f n (2 ^ down) 0
  least_none few far = least 0 (closest_none (n * 2 ^ low f) down (s + a)
      (less_than (n * 2 ^ low f) m a s lost q S from below (s + a) (omega arith)) (omega arith))

  pub least_cut : (whole : ℕ) → a < down → closest (n * 2 ^ low f) (2 ^ a * 2 ^ (down - a)) ≡ whole → IsNearestBits f n (2 ^ down) whole
  least_cut whole l c =
      let e : down ≡ a + (down - a) = omega arith in
      least whole (ap (closest (n * 2 ^ low f)) (ap (λ t. 2 ^ t) e ∙ pow-add 2 a (down - a)) ∙ c)

  pub least_exact : (lost ≡ true → 2 ^ 56 ≤ m) → down ≤ a → IsNearestBits f n (2 ^ down) (m * 2 ^ (a - down))
  least_exact known l =
      let p = shape f in
      let fits : s ≤ prec f = omega arith in
      let x : n * 2 ^ low f ≡ m * 2 ^ a = exact_of (n * 2 ^ low f) (2 ^ a) m s (prec f) lost known below fits p.digits.1 q in
      let e : a ≡ a - down + down = omega arith in
      least (m * 2 ^ (a - down)) (closest_exact (n * 2 ^ low f) m a down (a - down) x e)

-- r is one less than the number of binary digits
pub size_of : (r m : ℕ) → 2 ^ r ≤ m → m < 2 * 2 ^ r → m < 2 ^ 60
    → (0 < r + 1) × (r + 1 ≤ 60) × (2 ^ (r + 1 - 1) ≤ m) × (m < 2 ^ (r + 1)) × (m < 2 ^ 60)
size_of r m a b h =
    let e : r ≡ r + 1 - 1 = omega arith in
    let few : r < 60 = few_bits r m a h in
    (omega arith, omega arith, subst (λ t. 2 ^ t ≤ m) e a, omega (arith, b, pow-add 2 r 1), h)
