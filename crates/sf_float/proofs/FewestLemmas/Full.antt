-- A double with 53 binary digits: at most one decimal with fifteen digits is read as it, so that its digits are those of that decimal.
use Rattle.std.proofs.Common.{◌≡◌, ◌≢◌, ℕ, zero, suc, ◌+◌, ◌-◌, ◌*◌, ◌/◌, ◌%◌, ◌^◌, ◌<◌, ◌≤◌, ◌⊎◌, Bool, false, Option, Some, None, T, refl}
use Rattle.std.proofs.Common.{sym, ap, ◌∙◌, subst, inl, inr, arith, mul-pos, mul-le-mul_right, mul-le-mul_left, lt_of_not-le, pow_pos}
use Rattle.std.proofs.Common.{pow-suc, eq-zero-or-pos, mul-lt-mul_of_pos_right, lt_of_mul-lt-mul_right, div-add-mod', mod-lt}
use Rattle.std.proofs.lemmas.Nat.{pow-add}
use native.Mathlib.Nat.{eq_of_mul-eq-mul_right}
use lib.Dec.{lit<}
use lib.Ieee.Exact.{HasValue, round_exact}
use lib.Ieee.Fits.{down_pos}
use lib.Ieee.Order.{round_mono}
use lib.Ieee.Positive.{positive, positive_of_value, values_of_le}
use lib.Ieee.Scale.{round_same}
use lib.Ieee.{le}
use Rattle.std.specs.Float.Ieee.{Float, nan, inf, fin, round, up, down, fits, binary64}
use Rattle.sf_base.specs.declared.real.Real as real
use Rattle.sf_base.specs.declared.real.Real.TheVariants as reals
use Rattle.sf_float.specs.Scaled.{is_nonzero}
use Rattle.sf_float.proofs.Limbs.{power_pos}
use Rattle.sf_float.specs.fewest.Full.{IsFull, IsFullDouble}
use Rattle.sf_float.specs.fewest.Digits.{most_decimals, number_of, first_power, cut, tried, searched, trimmed, shortest}
use Rattle.sf_float.specs.fewest.Cut.{IsCut}
use Rattle.sf_float.proofs.FewestLemmas.Cuts as cuts
use Rattle.sf_float.proofs.FewestLemmas.Cuts.{IsParted, parted}
use Rattle.sf_float.proofs.FewestLemmas.Firsts.{below_quotient, from_quotient}
use Rattle.sf_float.proofs.FewestLemmas.Fewest as fewest
use Rattle.sf_float.proofs.FewestLemmas.ReadBack.{pattern_fits, tried_back}
use Rattle.sf_float.proofs.FewestLemmas.Trials.{searched_found, searched_next, trimmed_next, trimmed_end}

-- ---- zeros at the end

pub trimmed_tens : (t k n last : ℕ) → trimmed (k + t) (n * 10 ^ t) last ≡ trimmed k n (last + t)
trimmed_tens zero k n last =
    let a : k + 0 ≡ k = omega arith in
    let b : n * 10 ^ 0 ≡ n = omega arith in
    let c : last ≡ last + 0 = omega arith in
    λ i. trimmed (a i) (b i) (c i)
trimmed_tens (suc t) k n last =
    let a : k + suc t - 1 ≡ k + t = omega arith in
    let w : n * 10 ^ suc t ≡ n * 10 ^ t * 10 = omega (arith, ap (λ (x : ℕ). n * x) (pow-suc 10 t)) in
    let b : n * 10 ^ suc t / 10 ≡ n * 10 ^ t = omega (arith, w) in
    let z : n * 10 ^ suc t % 10 ≡ 0 = omega (arith, w) in
    let c : last + 1 + t ≡ last + suc t = omega arith in
    trimmed_next (k + suc t) (n * 10 ^ suc t) last (omega arith) z ∙ (λ i. trimmed (a i) (b i) (last + 1))
    ∙ trimmed_tens t k n (last + 1) ∙ ap (trimmed k n) c

-- as many as there can be are enough
pub trimmed_enough : (k more n last : ℕ) → 0 < n → n < 10 ^ k → trimmed (k + more) n last ≡ trimmed k n last
trimmed_enough zero more n last N l = absurd (omega (arith, N, l))
trimmed_enough (suc k) more n last N l =
    elim (eq-zero-or-pos (n % 10)) [
      | inr some ↦
          let other : n % 10 ≢ 0 = λ e. absurd (omega (arith, e, some)) in
          trimmed_end (suc k + more) n last other ∙ sym (trimmed_end (suc k) n last other)
      | inl none ↦
          let a : suc k + more - 1 ≡ k + more = omega arith in
          let b : suc k - 1 ≡ k = omega arith in
          let p : 10 ^ suc k ≡ 10 ^ k * 10 = pow-suc 10 k in
          trimmed_next (suc k + more) n last (omega arith) none ∙ (λ i. trimmed (a i) (n / 10) (last + 1))
          ∙ trimmed_enough k more (n / 10) (last + 1) (omega (arith, N, none)) (omega (arith, l, p))
          ∙ (λ i. trimmed (sym b i) (n / 10) (last + 1)) ∙ sym (trimmed_next (suc k) n last (omega arith) none)
    ]

-- ---- what is read as the double lies between its neighbours

-- so many parts are a double
exact : (m D : ℕ) → m < 2 ^ 53 → D ≤ 1074 → HasValue (round binary64 false m (2 ^ D)) false m (2 ^ D)
exact m D M l =
    let j = 1074 - D in
    let e : j + D ≡ 1074 = omega arith in
    let p : 2 ^ j * 2 ^ D ≡ 2 ^ 1074 = sym (pow-add 2 j D) ∙ ap (λ (t : ℕ). 2 ^ t) e in
    let s : 2 ^ j ≤ 2 ^ 1074 = omega (arith, p, mul-le-mul_left (2 ^ j) (pow_pos D)) in
    let b : m * 2 ^ j ≤ 2 ^ 53 * 2 ^ 1074 = omega (arith, mul-le-mul_right (2 ^ j) M, mul-le-mul_left (2 ^ 53) s) in
    let c : 2 ^ 53 * 2 ^ 1074 < 2 ^ (1074 + suc 1023) = lit< tt in
    round_exact binary64 false m (2 ^ D) m j (pow_pos D) M (omega (arith, b, c)) (omega (arith, ap (λ (t : ℕ). m * t) p))

module _ (m : ℕ) (e : _) (N D : ℕ) (value : HasValue (fin false m e) false N (2 ^ D)) (least : 2 ^ 52 ≤ N) (most : N + 1 < 2 ^ 53)
    (few : D ≤ 1074) where
  abbrev x : Float
  x = fin false m e

  positive_x : T (positive x)
  positive_x = positive_of_value x N (2 ^ D) value (omega (arith, least))

  -- a fraction that is no less than the next double is not read as this one
  above : (A B : ℕ) → 0 < B → round binary64 false A B ≡ x → A * 2 ^ D < (N + 1) * B
  above A B some h =
      lt_of_not-le (λ (g : (N + 1) * B ≤ A * 2 ^ D).
      let y = round binary64 false (N + 1) (2 ^ D) in
      let v = exact (N + 1) D most few in
      let l : T (le y x) = subst (λ (z : Float). T (le y z)) h (round_mono binary64 (N + 1) (2 ^ D) A B (pow_pos D) some g) in
      let w = values_of_le y x (N + 1) (2 ^ D) N (2 ^ D) (positive_of_value y (N + 1) (2 ^ D) v (omega arith)) positive_x v value l in
      absurd (omega (arith, w, pow_pos D)))

  below : (A B : ℕ) → 0 < B → round binary64 false A B ≡ x → N * B < A * 2 ^ D + B
  below A B some h =
      let k : N - 1 + 1 ≡ N = omega (arith, least) in
      let s : (N - 1) * B + B ≡ N * B = omega (arith, ap (λ (t : ℕ). t * B) k) in
      let far : (A * 2 ^ D ≤ (N - 1) * B) → ⊥ = λ g.
      (let y = round binary64 false (N - 1) (2 ^ D) in
      let v = exact (N - 1) D (omega (arith, most)) few in
      let l : T (le x y) = subst (λ (z : Float). T (le z y)) h (round_mono binary64 A B (N - 1) (2 ^ D) some (pow_pos D) g) in
      let w = values_of_le x y N (2 ^ D) (N - 1) (2 ^ D) positive_x (positive_of_value y (N - 1) (2 ^ D) v (omega (arith, least))) value v
      l in
      let t : (N - 1) * 2 ^ D + 2 ^ D ≡ N * 2 ^ D = omega (arith, ap (λ (t : ℕ). t * 2 ^ D) k) in
      absurd (omega (arith, w, t, pow_pos D))) in
      let near : (N - 1) * B < A * 2 ^ D = lt_of_not-le (λ (g : A * 2 ^ D ≤ (N - 1) * B). far g) in
      omega (arith, near, s)

  -- two decimals that are read as it are no step of this size apart
  apart : (n k J I : ℕ) → 0 < I → round binary64 false (n * J) I ≡ x → round binary64 false (k * J) I ≡ x → n < k → J * 2 ^ D < 2 * I
  apart n k J I some p q l =
      let a = above (k * J) I some q in
      let b = below (n * J) I some p in
      let s : suc n * (J * 2 ^ D) ≤ k * (J * 2 ^ D) = mul-le-mul_right (J * 2 ^ D) l in
      omega (arith, a, b, s)

-- ---- the search

module _ (bits : ℕ) (s : Bool) (m : ℕ) (e : _) (is : number_of (reals.F64 bits) ≡ fin s m e) (F : T (fits binary64 (fin s m e)))
    (M : 0 < m) (N : ℕ) (full : IsFull (fin s m e) N) (P : 16 ≤ first_power (fin s m e)) where
  abbrev r : real.Real
  r = reals.F64 bits

  abbrev p : ℕ
  p = first_power (fin s m e)

  abbrev last : ℕ
  last = p - 14

  abbrev reads : ℕ → ℕ → Type 0
  reads n q = round binary64 false (n * 10 ^ (q - 400)) (10 ^ (400 - q)) ≡ fin false m e

  apart_no : (n k : ℕ) → reads n last → reads k last → n < k → ⊥
  apart_no n k h g l =
      let I = 10 ^ (400 - last) in
      let J = 10 ^ (last - 400) in
      let D = full.down in
      let d = down e in
      let i : 0 < I = power_pos 10 (400 - last) (lit< tt) in
      let a = apart m e N D (refl, full.value.1) full.least full.most full.few n k J I i h g l in
      let w : m * up e * I < 10 ^ 15 * (d * J) = fewest.size_short r s m e is F M 14 (omega arith) in
      let v : m * up e * 2 ^ D ≡ N * d = full.value.1 in
      let q : 0 < d * I = mul-pos (down_pos e) i in
      let t : 2 ^ 52 * (d * I) ≤ N * (d * I) = mul-le-mul_right (d * I) full.least in
      let u : (m * up e * I + 1) * 2 ^ D ≤ 10 ^ 15 * (d * J) * 2 ^ D = mul-le-mul_right (2 ^ D) (omega (arith, w)) in
      let z : d * (J * 2 ^ D) ≤ d * (2 * I) = mul-le-mul_left d (omega (arith, a)) in
      let b : m * up e * I * 2 ^ D ≡ N * (d * I) = omega (arith, ap (λ (y : ℕ). y * I) v) in
      let c : 10 ^ 15 * (d * J) * 2 ^ D ≡ 10 ^ 15 * (d * (J * 2 ^ D)) = omega arith in
      absurd (omega (arith, u, z, b, c, t, q))

  one : (n k : ℕ) → reads n last → reads k last → n ≡ k
  one n k h g =
      elim (eq-zero-or-pos (k - n)) [
        | inr some ↦ absurd (apart_no n k h g (omega (arith, some)))
        | inl none ↦ elim (eq-zero-or-pos (n - k)) [
          | inr some ↦ absurd (apart_no k n g h (omega (arith, some)))
          | inl same ↦ omega (arith, none, same)
        ]
      ]

  -- a decimal with fewer digits is one with so many
  finer : (k j : ℕ) → j ≤ 14 → reads k (p - j) → reads (k * 10 ^ (14 - j)) last
  finer k j l h =
      let q = p - j in
      let t = 14 - j in
      let I = 400 - last in
      let J = last - 400 in
      let g : q - 400 + I ≡ t + (J + (400 - q)) = omega (arith, l, P) in
      let w : 10 ^ (q - 400) * 10 ^ I ≡ 10 ^ t * (10 ^ J * 10 ^ (400 - q)) = sym (pow-add 10 (q - 400) I) ∙ ap (λ (y : ℕ). 10 ^ y) g
      ∙ pow-add 10 t (J + (400 - q)) ∙ ap (λ (y : ℕ). 10 ^ t * y) (pow-add 10 J (400 - q)) in
      round_same binary64 false (k * 10 ^ t * 10 ^ J) (10 ^ I) (k * 10 ^ (q - 400)) (10 ^ (400 - q)) (power_pos 10 I (lit< tt))
      (power_pos 10 (400 - q) (lit< tt)) (omega (arith, ap (λ (y : ℕ). k * y) w)) ∙ h

  module _ (n : ℕ) (found : tried r last ≡ Some n) where
    own : reads n last
    own = fewest.forth r s m e is F M n last (tried_back r last n (pattern_fits r) found)

    same_trimmed : (k j : ℕ) → j ≤ 14 → tried r (p - j) ≡ Some k → trimmed 17 k (p - j) ≡ trimmed 17 n last
    same_trimmed k j l h =
        let t = 14 - j in
        let g : reads k (p - j) = fewest.forth r s m e is F M k (p - j) (tried_back r (p - j) k (pattern_fits r) h) in
        let b : n ≡ k * 10 ^ t = one n (k * 10 ^ t) own (finer k j l g) in
        let some : 0 < k = fewest.some_digit r s m e is F M k (p - j) g in
        let few : k ≤ 10 ^ (j + 1) = fewest.tried_few r s m e is F M j (omega (arith, l)) k h in
        let v : 17 - t ≡ suc (suc (j + 1)) = omega (arith, l) in
        let w : k < 10 ^ (17 - t) = rw v (omega (
          arith,
          few,
          pow-suc 10 (suc (j + 1)),
          pow-suc 10 (j + 1),
          power_pos 10 (j + 1)
              (lit< tt),
        )) in
        let y : 17 - t + t ≡ 17 = omega arith in
        let z : last + t ≡ p - j = omega (arith, l, P) in
        ap (λ (c : ℕ). trimmed c k (p - j)) (sym y) ∙ trimmed_enough (17 - t) t k (p - j) some w
        ∙ ap (trimmed (17 - t) k) (sym z) ∙ sym (trimmed_tens t (17 - t) k last) ∙ (λ i. trimmed (y i) (sym b i) last)

    go : (g j : ℕ) → g + j ≡ 14 → trimmed 17 (searched r (16 - j) (p - j)).0 (searched r (16 - j) (p - j)).1 ≡ trimmed 17 n last
    go zero j l =
        let z : p - j ≡ last = omega (arith, l) in
        ap (λ (y : ℕ × ℕ). trimmed 17 y.0 y.1)
        (searched_found r (16 - j) (p - j) n (omega (arith, l)) (sym (ap (tried r) z ∙ found)))
        ∙ ap (trimmed 17 n) z
    go (suc g) j l = by (tried r (p - j)) refl (go g (j + 1) (omega (arith, l)))
      where
        by : (o : Option ℕ) → tried r (p - j) ≡ o
            → trimmed 17 (searched r (16 - (j + 1)) (p - (j + 1))).0 (searched r (16 - (j + 1)) (p - (j + 1))).1 ≡ trimmed 17 n last
            → trimmed 17 (searched r (16 - j) (p - j)).0 (searched r (16 - j) (p - j)).1 ≡ trimmed 17 n last
        by (Some k) h next =
            ap (λ (y : ℕ × ℕ). trimmed 17 y.0 y.1) (searched_found r (16 - j) (p - j) k (omega (arith, l)) (sym h))
            ∙ same_trimmed k j (omega (arith, l)) h
        by None h next =
            let a : 16 - j - 1 ≡ 16 - (j + 1) = omega arith in
            let b : p - j - 1 ≡ p - (j + 1) = omega arith in
            ap (λ (y : ℕ × ℕ). trimmed 17 y.0 y.1)
            (searched_next r (16 - j) (p - j) (omega (arith, l)) (sym h) ∙ (λ i. searched r (a i) (b i)))
            ∙ next

    all : trimmed 17 n last ≡ shortest r
    unfolding shortest
    all =
        let z : p - 0 ≡ first_power (number_of r) = omega arith ∙ ap first_power (sym is) in
        sym (go 14 0 refl) ∙ ap (λ (y : ℕ × ℕ). trimmed 17 y.0 y.1) (ap (searched r 16) z)

pub full_shortest : (bits : ℕ) (x : Float) → number_of (reals.F64 bits) ≡ x → is_nonzero x → (m : ℕ) → IsFull x m → 16 ≤ first_power x
    → (n : ℕ)
    → tried (reals.F64 bits) (first_power x - 14) ≡ Some n → trimmed 17 n (first_power x - 14) ≡ shortest (reals.F64 bits)
full_shortest bits nan is some k full P n h = absurd some
full_shortest bits (inf s) is some k full P n h = absurd some
full_shortest bits (fin s m e) is some k full P n h =
    all bits s m e is (subst (λ (y : Float). T (fits binary64 y)) is (pattern_fits (reals.F64 bits))) some k full P n h

pub short_is : (r : real.Real) (m : ℕ) → IsFullDouble r m → is_nonzero (number_of r) → 16 ≤ first_power (number_of r) → (n : ℕ)
    → tried r (first_power (number_of r) - 14) ≡ Some n → trimmed 17 n (first_power (number_of r) - 14) ≡ shortest r
short_is (reals.F32 bits) m full some P n h = absurd full
short_is (reals.F64 bits) m full some P n h = full_shortest bits (number_of (reals.F64 bits)) refl some m full P n h

pub most_of_full : (r : real.Real) (m : ℕ) → IsFullDouble r m → most_decimals r ≡ 16
most_of_full (reals.F32 bits) m full = absurd full
most_of_full (reals.F64 bits) m full = refl

-- what is searched for has the shortest digits
pub searched_same : (r : real.Real) (z : ℕ × ℕ) (first : ℕ) → first ≡ first_power (number_of r)
    → z ≡ searched r (most_decimals r) first → trimmed 17 z.0 z.1 ≡ shortest r
unfolding shortest
searched_same r z first is e =
    ap (λ (y : ℕ × ℕ). trimmed 17 y.0 y.1) (e ∙ ap (searched r (most_decimals r)) is)

-- ---- decimals that are further from the double than its neighbours

module _ (N low rest more twice n u I X : ℕ) (some : 0 < I) (U : 0 < u) (positive_n : 0 < n) (cross : N * I * (100 * u) ≡ n * X)
    (parts : 2 * n ≡ 2 * (low * (100 * u)) + rest * u + more) (few : more < u) (top : 2 * n < (twice + 1) * u) where
  near_low : N * I < low * X + I → N * rest < twice + 1
  near_low l =
      let a : (N * I) * n < (low * X + I) * n = mul-lt-mul_of_pos_right l positive_n in
      let b : low * (N * I * (100 * u)) ≡ low * (n * X) = ap (λ (t : ℕ). low * t) cross in
      let c : N * n * I < (low * N * (100 * u) + n) * I = omega (arith, a, b) in
      let d : N * n < low * N * (100 * u) + n = lt_of_mul-lt-mul_right I c in
      let e : N * (2 * n) ≡ N * (2 * (low * (100 * u)) + rest * u + more) = ap (λ (t : ℕ). N * t) parts in
      let f : N * rest * u < (twice + 1) * u = omega (arith, d, e, top) in
      lt_of_mul-lt-mul_right u f

  near_high : rest ≤ 199 → (low + 1) * X < (N + 1) * I → N * (199 - rest) < twice + 1
  near_high r l =
      let a : (low + 1) * X * n < (N + 1) * I * n = mul-lt-mul_of_pos_right l positive_n in
      let b : (low + 1) * (N * I * (100 * u)) ≡ (low + 1) * (n * X) = ap (λ (t : ℕ). (low + 1) * t) cross in
      let c : (low + 1) * N * (100 * u) * I < (N + 1) * n * I = omega (arith, a, b) in
      let d : (low + 1) * N * (100 * u) < (N + 1) * n = lt_of_mul-lt-mul_right I c in
      let e : N * (2 * n) ≡ N * (2 * (low * (100 * u)) + rest * u + more) = ap (λ (t : ℕ). N * t) parts in
      let g : N * more ≤ N * u = mul-le-mul_left N (omega (arith, few)) in
      let k : N * (199 - rest + rest) ≡ N * 199 = ap (λ (t : ℕ). N * t) (omega (arith, r)) in
      let m : N * (199 - rest) * u + N * rest * u ≡ N * 199 * u = omega (arith, ap (λ (t : ℕ). t * u) k) in
      let f : N * (199 - rest) * u < (twice + 1) * u = omega (arith, d, e, g, m, top) in
      lt_of_mul-lt-mul_right u f

module _ (bits : ℕ) (s : Bool) (m : ℕ) (e : _) (is : number_of (reals.F64 bits) ≡ fin s m e) (F : T (fits binary64 (fin s m e)))
    (M : 0 < m) (N : ℕ) (full : IsFull (fin s m e) N) (P : 16 ≤ first_power (fin s m e)) (twice : ℕ) (lost : Bool)
    (z : IsCut (fin s m e) (first_power (fin s m e)) twice lost) (low_far : twice < N * (twice % 200))
    (high_far : twice < N * (199 - twice % 200)) where
  abbrev q : ℕ
  q = first_power (fin s m e)

  abbrev at : ℕ
  at = q - 14

  abbrev I : ℕ
  I = 10 ^ (400 - at)

  abbrev J : ℕ
  J = 10 ^ (at - 400)

  abbrev D : ℕ
  D = full.down

  abbrev n : ℕ
  n = z.a * 10 ^ (416 - q)

  abbrev u : ℕ
  u = z.c * 10 ^ (q - 416)

  i_some : 0 < I
  i_some = power_pos 10 (400 - at) (lit< tt)

  u_some : 0 < u
  u_some = mul-pos z.some (power_pos 10 (q - 416) (lit< tt))

  n_some : 0 < n
  n_some = let l = from_quotient (2 * n) u twice (2 * 10 ^ 16) lost z.full z.quotient in omega (arith, l, u_some)

  whole : twice ≡ twice / 200 * (2 * 10 ^ (16 - 14)) + twice % 200
  whole = sym (div-add-mod' twice 200)

  split : IsParted n u 100 (twice / 200) (twice % 200) lost
  split = parted n u 100 (twice / 200) (twice % 200) twice lost u_some whole z.quotient

  top : 2 * n < (twice + 1) * u
  top = below_quotient (2 * n) u twice (twice + 1) lost u_some (omega arith) z.quotient

  sizes : z.a * 2 ^ D ≡ N * z.c
  sizes = eq_of_mul-eq-mul_right (down e) (down_pos e) (z.a * 2 ^ D) (N * z.c)
      (omega (arith, ap (λ (t : ℕ). t * 2 ^ D) z.value.1, ap (λ (t : ℕ). t * z.c) full.value.1))

  cross : N * I * (100 * u) ≡ n * (J * 2 ^ D)
  cross =
      let t : z.a * I * (100 * u) ≡ n * (z.c * J) = cuts.same z.a z.c q 14 z.some (omega arith) (omega (arith, P)) in
      eq_of_mul-eq-mul_right z.c z.some (N * I * (100 * u)) (n * (J * 2 ^ D))
      (omega (arith, ap (λ (t : ℕ). t * 2 ^ D) t, ap (λ (t : ℕ). t * I * (100 * u)) sizes))

  floor : cut (fin s m e) at ≡ twice / 200
  floor = cuts.cut_low (fin s m e) q twice 14 (twice / 200) (twice % 200) lost (omega arith) (omega (arith, P)) z whole
      (mod-lt twice (lit< tt))

  away : (v : ℕ) → (v ≡ cut (fin s m e) at) ⊎ (v ≡ cut (fin s m e) at + 1)
      → round binary64 false (v * J) I ≡ fin false m e → ⊥
  away v (inl k) h =
      let b = below m e N D (refl, full.value.1) full.least full.most full.few (v * J) I i_some h in
      let w : v * J * 2 ^ D ≡ twice / 200 * (J * 2 ^ D) = omega (arith, ap (λ (t : ℕ). t * (J * 2 ^ D)) (k ∙ floor)) in
      let l = near_low N (twice / 200) (twice % 200) split.more twice n u I (J * 2 ^ D) i_some u_some n_some cross split.is split.less top
      (omega (arith, b, w)) in
      absurd (omega (arith, l, low_far))
  away v (inr k) h =
      let b = above m e N D (refl, full.value.1) full.least full.most full.few (v * J) I i_some h in
      let w : v * J * 2 ^ D ≡ (twice / 200 + 1) * (J * 2 ^ D) = omega (
        arith,
        ap (λ (t : ℕ). t * (J * 2 ^ D))
            (k ∙ ap (λ (t : ℕ). t + 1) floor),
      ) in
      let r : twice % 200 < 200 = mod-lt twice (lit< tt) in
      let l = near_high N (twice / 200) (twice % 200) split.more twice n u I (J * 2 ^ D) i_some u_some n_some cross split.is split.less
      top (omega (arith, r))
      (omega (arith, b, w)) in
      absurd (omega (arith, l, high_far))

  none_near : tried (reals.F64 bits) at ≡ None
  none_near = by (tried (reals.F64 bits) at) refl
    where
      by : (o : Option ℕ) → tried (reals.F64 bits) at ≡ o → o ≡ None
      by None h = refl
      by (Some v) h = absurd (away v (fewest.tried_is (reals.F64 bits) s m e is F M 14 (omega arith) v h)
          (fewest.forth (reals.F64 bits) s m e is F M v at (tried_back (reals.F64 bits) at v (pattern_fits (reals.F64 bits)) h)))

far_double : (bits : ℕ) (x : Float) → number_of (reals.F64 bits) ≡ x → is_nonzero x → (m : ℕ) → IsFull x m → 16 ≤ first_power x
    → (twice : ℕ)
    (lost : Bool) → IsCut x (first_power x) twice lost → twice < m * (twice % 200) → twice < m * (199 - twice % 200)
    → tried (reals.F64 bits) (first_power x - 14) ≡ None
far_double bits nan is some k full P twice lost z low high = absurd some
far_double bits (inf s) is some k full P twice lost z low high = absurd some
far_double bits (fin s m e) is some k full P twice lost z low high =
    none_near bits s m e is (subst (λ (y : Float). T (fits binary64 y)) is (pattern_fits (reals.F64 bits))) some k full P twice lost z low
    high

pub far_none : (r : real.Real) (m : ℕ) → IsFullDouble r m → is_nonzero (number_of r) → (first twice : ℕ) (lost : Bool)
    → IsCut (number_of r) first twice lost → 16 ≤ first → twice < m * (twice % 200) → twice < m * (199 - twice % 200)
    → tried r (first - 14) ≡ None
far_none (reals.F32 bits) m full some first twice lost z P low high = absurd full
far_none (reals.F64 bits) m full some first twice lost z P low high =
    let x = number_of (reals.F64 bits) in
    subst (λ (p : ℕ). IsCut x p twice lost → 16 ≤ p → tried (reals.F64 bits) (p - 14) ≡ None) (sym z.first_is)
    (λ y Q. far_double bits x refl some m full Q twice lost y low high) z P
