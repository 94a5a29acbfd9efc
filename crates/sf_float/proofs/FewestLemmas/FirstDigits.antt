-- Searches for the least number that passes a test: how many digits there are, and where the first stands.
use Rattle.std.proofs.Common.{◌≡◌, ℕ, zero, suc, ◌+◌, ◌-◌, ◌*◌, ◌/◌, ◌^◌, ◌<◌, ◌≤◌, Bool, true, false, nat_lt, refl, sym, ap, ◌∙◌, subst}
use Rattle.std.proofs.Common.{inl, inr, arith, eq-zero-or-pos, eq-or-lt_of_le, true≢false, lt-ltb, le-ltb, ltb-true, ltb-false, pow-suc}
use Rattle.std.proofs.Common.{mul-pos, mul-le-mul_right, le_of_mul-le-mul_right, lt_of_mul-lt-mul_right, mul-lt-mul_of_pos_right}
use Rattle.std.proofs.Common.{div-lt_iff_lt-mul}
use Rattle.std.proofs.lemmas.Nat.{pow-add}
use Rattle.std.proofs.Math.Nat.{pow-le-pow_right, le-div_iff_mul-le, le_of_lt}
use lib.Dec.{lit<}
use Rattle.std.specs.Float.Ieee.{Float}
use Rattle.std.specs.Float.Ieee.Exact.{HasValue}
use Rattle.sf_float.specs.Computed.{first_passing, count_of}
use Rattle.sf_float.proofs.Limbs.{power_pos}
use Rattle.sf_float.proofs.Powers.{closest_ge}
use Rattle.sf_float.proofs.ReadBack.{scaled_of_value}
use Rattle.sf_float.specs.fewest.Digits.{cut, near, first_power}
use Rattle.sf_float.proofs.FewestLemmas.Cuts.{cut_of_value}

at_least : (test : ℕ → Bool) (k i : ℕ) (b : Bool) → i ≤ first_passing test k b i
at_least test zero i b = omega arith
at_least test (suc k) i true = omega arith
at_least test (suc k) i false = omega (arith, at_least test k (suc i) (test (suc i)))

passes : (test : ℕ → Bool) (k i : ℕ) (b : Bool) → test i ≡ b → first_passing test k b i < i + k
    → test (first_passing test k b i) ≡ true
passes test zero i b e l = absurd (omega (arith, l))
passes test (suc k) i true e l = e
passes test (suc k) i false e l = passes test k (suc i) (test (suc i)) refl (omega (arith, l))

fails_before : (test : ℕ → Bool) (k i : ℕ) (b : Bool) → test i ≡ b → (q : ℕ) → i ≤ q → q < first_passing test k b i → test q ≡ false
fails_before test zero i b e q from l = absurd (omega (arith, from, l))
fails_before test (suc k) i true e q from l = absurd (omega (arith, from, l))
fails_before test (suc k) i false e q from l =
    elim (eq-or-lt_of_le from) [
      | inl s ↦ ap test (sym s) ∙ e
      | inr m ↦ fails_before test k (suc i) (test (suc i)) refl q m l
    ]

-- one that passes within reach
passes_within : (test : ℕ → Bool) (k i n : ℕ) (b : Bool) → test i ≡ b → i ≤ n → n ≤ i + k → test n ≡ true
    → test (first_passing test k b i) ≡ true
passes_within test zero i n b e from to p = let s : n ≡ i = omega (arith, from, to) in ap test (sym s) ∙ p
passes_within test (suc k) i n true e from to p = e
passes_within test (suc k) i n false e from to p =
    elim (eq-or-lt_of_le from) [
      | inl s ↦ absurd (true≢false (sym p ∙ ap test (sym s) ∙ e))
      | inr m ↦ passes_within test k (suc i) n (test (suc i)) refl m (omega (arith, to)) p
    ]

-- ---- how many digits a number has

below_power : (k : ℕ) → k < 10 ^ k
below_power zero = omega arith
below_power (suc k) = omega (arith, below_power k, pow-suc 10 k)

pub count_some : (n : ℕ) → 0 < count_of 0 n
unfolding count_of
count_some n = at_least (λ c. nat_lt n (10 ^ (c + 0))) n 1 _

pub count_fits : (n : ℕ) → n < 10 ^ count_of 0 n
unfolding count_of
count_fits n =
    let test : ℕ → Bool = λ c. nat_lt n (10 ^ (c + 0)) in
    let more : n < 10 ^ (n + 1 + 0) = (let z : n + 1 + 0 ≡ n + 1 = omega arith in rw z (omega (arith, below_power n, pow-add 10 n 1))) in
    let p = passes_within test n 1 (n + 1) (test 1) refl (omega arith) (omega arith) (lt-ltb _ _ more) in
    let c = first_passing test n (test 1) 1 in
    let z : c + 0 ≡ c = omega arith in
    subst (λ k. n < 10 ^ k) z (ltb-true n (10 ^ (c + 0)) p)

pub count_most : (n b : ℕ) → 0 < b → n < 10 ^ b → count_of 0 n ≤ b
unfolding count_of
count_most n b B l =
    let test : ℕ → Bool = λ c. nat_lt n (10 ^ (c + 0)) in
    let c = first_passing test n (test 1) 1 in
    elim (eq-zero-or-pos (c - b)) [
      | inl z ↦ omega (arith, z)
      | inr g ↦
          let f = fails_before test n 1 (test 1) refl b B (omega (arith, g)) in
          let z : b + 0 ≡ b = omega arith in
          absurd (true≢false (sym (lt-ltb n (10 ^ (b + 0)) (rw z l)) ∙ f))
    ]

pub count_least : (n : ℕ) → 0 < n → 10 ^ (count_of 0 n - 1) ≤ n
unfolding count_of
count_least n N =
    let test : ℕ → Bool = λ c. nat_lt n (10 ^ (c + 0)) in
    let c = first_passing test n (test 1) 1 in
    elim (eq-zero-or-pos (c - 1)) [
      | inl z ↦ rw z (omega (arith, N))
      | inr g ↦
          let f = fails_before test n 1 (test 1) refl (c - 1) (omega (arith, g)) (omega (arith, g)) in
          let z : c - 1 + 0 ≡ c - 1 = omega arith in
          subst (λ k. 10 ^ k ≤ n) z (ltb-false n (10 ^ (c - 1 + 0)) f)
    ]

-- ---- where the first digit of a / c stands

module _ (x : Float) (s : Bool) (a c : ℕ) (C : 0 < c) (A : 0 < a) (few : c ≤ 2 ^ 1074) (v : HasValue x s a c) where
  step : (j : ℕ) → 0 < c * 10 ^ j
  step j = mul-pos C (power_pos 10 j (lit< tt))

  abbrev test : ℕ → Bool
  test q = nat_lt (cut x q) 10

  far : (q : ℕ) → q ≤ 15 → 10 ≤ cut x q
  far q l =
      let z : q - 400 ≡ 0 = omega (arith, l) in
      let up : 10 ^ 385 ≤ 10 ^ (400 - q) = pow-le-pow_right {n = 10} (lit< tt) {i = 385} (omega (arith, l)) in
      let k : 10 * 2 ^ 1074 ≤ 10 ^ 385 = le_of_lt (lit< tt) in
      let m : 1 * 10 ^ (400 - q) ≤ a * 10 ^ (400 - q) = mul-le-mul_right (10 ^ (400 - q)) A in
      let h : 10 * (c * 10 ^ 0) ≤ a * 10 ^ (400 - q) = omega (arith, few, k, up, m) in
      rw (cut_of_value x s a c q C v) ((le-div_iff_mul-le (step (q - 400))).1 (rw z h))

  pub first_far : 16 ≤ first_power x
  unfolding first_power
  first_far =
      let p = first_passing test 1000 (test 0) 0 in
      elim (eq-zero-or-pos (16 - p)) [
        | inl z ↦ (let e : first_power x ≡ p = refl in omega (arith, z, e))
        | inr g ↦
            let t = passes test 1000 0 (test 0) refl (omega (arith, g)) in
            absurd (true≢false (sym t ∙ le-ltb (cut x p) 10 (far p (omega (arith, g)))))
      ]

  before : (q : ℕ) → q < first_power x → 10 * (c * 10 ^ (q - 400)) ≤ a * 10 ^ (400 - q)
  unfolding first_power
  before q l =
      let f = fails_before test 1000 0 (test 0) refl q (omega arith) l in
      (le-div_iff_mul-le (step (q - 400))).0 (rw (cut_of_value x s a c q C v) at (ltb-false (cut x q) 10 f))

  -- with k digits after the first there are k + 1, and no more
  pub long : (k : ℕ) → k ≤ 16 → 10 ^ k * (c * 10 ^ (first_power x - k - 400)) ≤ a * 10 ^ (400 - (first_power x - k))
  long k K =
      let p = first_power x in
      let q = p - 1 in
      let F : 16 ≤ p = first_far in
      let b = before q (omega arith) in
      let e : 1 + (400 - (p - k) + (q - 400)) ≡ k + (400 - q + (p - k - 400)) = omega arith in
      let t : 10 ^ 1 * (10 ^ (400 - (p - k)) * 10 ^ (q - 400)) ≡ 10 ^ k * (10 ^ (400 - q) * 10 ^ (p - k - 400)) =
      ap (λ y. 10 ^ 1 * y) (sym (pow-add 10 (400 - (p - k)) (q - 400))) ∙ sym (pow-add 10 1 (400 - (p - k) + (q - 400)))
      ∙ ap (λ y. 10 ^ y) e ∙ pow-add 10 k (400 - q + (p - k - 400))
      ∙ ap (λ y. 10 ^ k * y) (pow-add 10 (400 - q) (p - k - 400)) in
      within (10 ^ (400 - (p - k))) (10 ^ (p - k - 400)) (10 ^ (400 - q)) (10 ^ (q - 400)) (10 ^ k)
      (power_pos 10 (q - 400) (lit< tt)) t b
    where
      within : (y z w g h : ℕ) → 0 < g → 10 * (y * g) ≡ h * (w * z) → 10 * (c * g) ≤ a * w → h * (c * z) ≤ a * y
      within y z w g h G t b =
          le_of_mul-le-mul_right {k = 10 * g} (omega (arith, ap (λ m. a * m) t, mul-le-mul_right (h * z) b)) (omega (arith, G))

  pub near_long : (k : ℕ) → k ≤ 16 → 10 ^ k ≤ near x (first_power x - k)
  near_long k K =
      let i = 400 - (first_power x - k) in
      let j = first_power x - k - 400 in
      rw (scaled_of_value x s a c i j C v) (closest_ge (10 ^ k) (a * 10 ^ i) (c * 10 ^ j) (step j) (long k K))

  pub no_longer : (k : ℕ) → k ≤ 16 → a < 10 ^ 600 * c
      → a * 10 ^ (400 - (first_power x - k)) < 10 ^ (k + 1) * (c * 10 ^ (first_power x - k - 400))
  unfolding first_power
  no_longer k K big =
      let p = first_power x in
      let u : 10 ^ 600 ≡ 10 * 10 ^ 599 = refl in
      let l : a * 10 ^ (400 - 999) / (c * 10 ^ (999 - 400)) < 10 = (div-lt_iff_lt-mul (step 599)).1 (omega (arith, big, u)) in
      let w : test 999 ≡ true = lt-ltb (cut x 999) 10 (rw (cut_of_value x s a c 999 C v) l) in
      let t = passes_within test 1000 0 999 (test 0) refl (omega arith) (omega arith) w in
      let one : a * 10 ^ (400 - p) / (c * 10 ^ (p - 400)) < 10 = rw (cut_of_value x s a c p C v) at (ltb-true (cut x p) 10 t) in
      let b : a * 10 ^ (400 - p) < 10 * (c * 10 ^ (p - 400)) = (div-lt_iff_lt-mul (step (p - 400))).0 one in
      let F : 16 ≤ p = first_far in
      let e : 400 - (p - k) + (p - 400) ≡ k + (400 - p + (p - k - 400)) = omega arith in
      let t : 10 ^ (400 - (p - k)) * 10 ^ (p - 400) ≡ 10 ^ k * (10 ^ (400 - p) * 10 ^ (p - k - 400)) =
      sym (pow-add 10 (400 - (p - k)) (p - 400)) ∙ ap (λ y. 10 ^ y) e ∙ pow-add 10 k (400 - p + (p - k - 400))
      ∙ ap (λ y. 10 ^ k * y) (pow-add 10 (400 - p) (p - k - 400)) in
      rw (pow-add 10 k 1)
      (within (10 ^ (400 - (p - k))) (10 ^ (p - k - 400)) (10 ^ (400 - p)) (10 ^ (p - 400)) (10 ^ k) (power_pos 10 k (lit< tt))
      (power_pos 10 (p - k - 400) (lit< tt)) t b)
    where
      within : (y z w g h : ℕ) → 0 < h → 0 < z → y * g ≡ h * (w * z) → a * w < 10 * (c * g) → a * y < h * 10 * (c * z)
      within y z w g h H Z t b =
          lt_of_mul-lt-mul_right g (omega (arith, ap (λ m. a * m) t, mul-lt-mul_of_pos_right b (mul-pos H Z)))
