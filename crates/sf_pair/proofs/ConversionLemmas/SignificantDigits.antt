-- The computed digits of a finite double are those that the definitions ask for.
use Rattle.std.proofs.Common.{◌≡◌, inl, inr, ℕ, zero, suc, ◌+◌, ◌-◌, ◌*◌, ◌%◌, ◌^◌, ◌<◌, ◌≤◌, Bool, true, false, cond, nat_lt, nat_le}
use Rattle.std.proofs.Common.{nat_eq, ◌&&◌, T, refl, sym, ap, ◌∙◌, subst, arith, eq-or-lt_of_le, eq-zero-or-pos, mul-pos, mul-le-mul_right}
use Rattle.std.proofs.Common.{mul-le-mul_left, pow-suc}
use Rattle.std.proofs.lemmas.Nat.{pow-add}
use Rattle.std.proofs.lemmas.Bool.{lt-ltb, ltb-true, ne_eqb}
use Rattle.std.proofs.lemmas.Bool.Decides.{nat_tests}
use Rattle.std.specs.Float.Ieee.{Float, nan, inf, fin, up, down, fits, binary64}
use Rattle.std.specs.Float.Ieee.Nearest.{closest}
use lib.Ieee.Fits.{up_pos, down_pos, and_l, and_r}
use Rattle.std.proofs.Math.Dec.{leb→le}
use lib.Dec.{lit<}
use Rattle.sf_float.specs.Scaled.{scaled, scaled_at, is_nonzero, IsSignificant}
use Rattle.sf_float.specs.Computed.{first_passing, least_passing, is_zero_size, power_of, number_of}
use Rattle.sf_float.proofs.Powers.{closest_ge, closest_le, tenth_up, tenth_down}
use Rattle.sf_pair.proofs.ConversionLemmas.RealSizes.{passing}
use Rattle.sf_pair.proofs.ConversionLemmas.LongestReals.{reached, size_small, greatest, power_some}

-- ---- the least number that passes a test

-- none before it passes
pub all_failing : (test : ℕ → Bool) (k i : ℕ) (b : Bool) → test i ≡ b → (q : ℕ) → i ≤ q → q < first_passing test k b i
    → test q ≡ false
all_failing test zero i b is q low high = absurd (omega (arith, low, high))
all_failing test (suc k) i true is q low high = absurd (omega (arith, low, high))
all_failing test (suc k) i false is q low high = elim (eq-or-lt_of_le low) [
  | inl e ↦ ap test (sym e) ∙ is
  | inr l ↦ all_failing test k (suc i) (test (suc i)) refl q l high
]

pub not_below : (a b : ℕ) → nat_lt a b ≡ false → b ≤ a
not_below a b e = grind (arith, nat_tests)

-- ---- the power of ten of the first digit

nonzero_sized : (x : Float) → is_nonzero x → is_zero_size x ≡ false
nonzero_sized nan h = absurd h
nonzero_sized (inf s) h = absurd h
nonzero_sized (fin s m e) h = ne_eqb m 0 (λ z. omega (arith, z, h))

-- a finite double is less than 10 ^ 309
high_power : (x : Float) (k : ℕ) → T (fits binary64 x) → 0 < k → k ≤ 256 → scaled_at x k 709 < 10 ^ k
high_power x k f some few =
    let none : k + 399 - 709 ≡ 0 = omega (arith, few) in
    let down_by : 709 - (k + 399) ≡ 310 - k = omega arith in
    let whole : 10 ^ (k - 1) * 10 ^ (310 - k) ≡ 10 ^ 309 =
    sym (pow-add 10 (k - 1) (310 - k)) ∙ ap (λ (j : ℕ). 10 ^ j) {x = k - 1 + (310 - k)} {y = 309} (omega (arith, some, few)) in
    let up : 10 ^ k ≡ 10 ^ (k - 1) * 10 = ap (λ (j : ℕ). 10 ^ j) {x = k} {y = suc (k - 1)} (omega (arith, some)) ∙ pow-suc 10 (k - 1) in
    let most : scaled x 0 (310 - k) ≤ 10 ^ (k - 1) = by x f (10 ^ (k - 1)) (310 - k) whole in
    subst (λ (n : ℕ). n < 10 ^ k) (λ i. scaled x (sym none i) (sym down_by i)) (omega (arith, most, up, power_some (k - 1)))
  where
    regroup : (a b c : ℕ) → a * (b * c) ≡ a * c * b
    regroup a b c = omega arith

    by : (x : Float) → T (fits binary64 x) → (n j : ℕ) → n * 10 ^ j ≡ 10 ^ 309 → scaled x 0 j ≤ n
    by nan f n j e = omega arith
    by (inf s) f n j e = omega arith
    by (fin s m e) f n j whole =
        let size = size_small s m e f in
        let same : n * (down e * 10 ^ j) ≡ 10 ^ 309 * down e = regroup n (down e) (10 ^ j) ∙ ap (λ (t : ℕ). t * down e) whole in
        let more : 2 ^ 1024 * down e ≤ 10 ^ 309 * down e = mul-le-mul_right (down e) (omega (arith, greatest)) in
        closest_le n (m * up e * 1) (down e * 10 ^ j) (mul-pos (down_pos e) (power_some j)) (omega (arith, size, same, more))

-- one other than 0 is more than 10 ^ -399
tiny : 2 ^ 1074 < 10 ^ 399
tiny = lit< tt

pub least_down : (s : Bool) (m : ℕ) (e : _) → T (fits binary64 (fin s (suc m) e)) → down e ≤ 2 ^ 1074
unfolding fits
least_down s m e f =
    let odd : Bool = nat_eq (suc m % 2) 1 && nat_lt (suc m) (2 ^ 53) in
    let low : Bool = nat_le (down e) (2 ^ 1074) in
    leb→le _ _ (and_r odd low (and_l (odd && low) (nat_lt (suc m * up e) (2 ^ 1024 * down e)) f))

low_power : (x : Float) (k : ℕ) → T (fits binary64 x) → is_nonzero x → 10 ^ k ≤ scaled_at x k 0
low_power nan k f h = absurd h
low_power (inf s) k f h = absurd h
low_power (fin s zero e) k f h = absurd (omega (arith, h))
low_power (fin s (suc m) e) k f h =
    let i : ℕ = k + 399 in
    let small : 10 ^ k * down e ≤ 10 ^ k * 10 ^ 399 = mul-le-mul_left (10 ^ k) (omega (arith, least_down s m e f, tiny)) in
    let whole : 10 ^ k * 10 ^ 399 ≡ 10 ^ i = sym (pow-add 10 k 399) in
    let one : 1 * 10 ^ i ≤ suc m * up e * 10 ^ i = mul-le-mul_right (10 ^ i) (mul-pos (omega arith) (up_pos e)) in
    let all : i ≡ k + 399 - 0 = omega arith in
    let none : 0 ≡ 0 - i = omega arith in
    subst (λ (v : ℕ). 10 ^ k ≤ v) (λ j. scaled (fin s (suc m) e) (all j) (none j)) (
    closest_ge (10 ^ k) (suc m * up e * 10 ^ i) (down e * 10 ^ 0) (mul-pos (down_pos e) (lit< tt))
    (omega (arith, small, whole, one))
    )

-- ---- the digits

-- a tenth of what one power less has
tenth : (x : Float) (n k p : ℕ) → 0 < p → 10 * n ≤ scaled_at x k (p - 1) → n ≤ scaled_at x k p
tenth x n k p some h = elim (eq-zero-or-pos (p - (k + 399))) [
  | inl none ↦
      let i : ℕ = k + 399 - p in
      let more : k + 399 - (p - 1) ≡ suc i = omega (arith, some, none) in
      let before : (p - 1) - (k + 399) ≡ 0 = omega (arith, none) in
      subst (λ (j : ℕ). n ≤ scaled x i j) (sym none) (raised x i (subst (λ (v : ℕ). 10 * n ≤ v) (λ j. scaled x (more j) (before j)) h))
  | inr past ↦
      let j : ℕ = (p - 1) - (k + 399) in
      let here : k + 399 - p ≡ 0 = omega (arith, past) in
      let before : k + 399 - (p - 1) ≡ 0 = omega (arith, past) in
      let more : p - (k + 399) ≡ suc j = omega (arith, past) in
      subst (λ (v : ℕ). n ≤ v) (λ i. scaled x (sym here i) (sym more i))
      (lowered x j (subst (λ (i : ℕ). 10 * n ≤ scaled x i j) before h))
]
  where
    swap : (a b : ℕ) → a * (b * 10) ≡ 10 * (a * b)
    swap a b = omega arith

    raised : (x : Float) (i : ℕ) → 10 * n ≤ scaled x (suc i) 0 → n ≤ scaled x i 0
    raised nan i h = omega (arith, h)
    raised (inf s) i h = omega (arith, h)
    raised (fin s m e) i h =
        let tens : m * up e * 10 ^ suc i ≡ 10 * (m * up e * 10 ^ i) = ap (λ (j : ℕ). m * up e * j) (pow-suc 10 i)
        ∙ swap (m * up e) (10 ^ i) in
        tenth_up n (m * up e * 10 ^ i) (down e * 10 ^ 0) (mul-pos (down_pos e) (lit< tt))
        (subst (λ (v : ℕ). 10 * n ≤ closest v (down e * 10 ^ 0)) tens h)

    lowered : (x : Float) (j : ℕ) → 10 * n ≤ scaled x 0 j → n ≤ scaled x 0 (suc j)
    lowered nan j h = omega (arith, h)
    lowered (inf s) j h = omega (arith, h)
    lowered (fin s m e) j h =
        let tens : down e * 10 ^ suc j ≡ 10 * (down e * 10 ^ j) = ap (λ (j : ℕ). down e * j) (pow-suc 10 j) ∙ swap (down e) (10 ^ j) in
        subst (λ (u : ℕ). n ≤ closest (m * up e * 1) u) (sym tens)
        (tenth_down n (m * up e * 1) (down e * 10 ^ j) (mul-pos (down_pos e) (power_some j)) h)

pub record Digits (x : Float) (k : ℕ) : Type 0 where
  pub significant : IsSignificant x k (number_of x k) (power_of x k)
  pub few : power_of x k < 1000

pub digits_of : (x : Float) (k : ℕ) → T (fits binary64 x) → is_nonzero x → 0 < k → k ≤ 256 → Digits x k
unfolding power_of
digits_of x k f h some few =
    let e : is_zero_size x ≡ false = nonzero_sized x h in
    let r : ℕ = least_passing test 1000 0 in
    let p : power_of x k ≡ r = ap (λ (t : Bool). cond t 400 r) e in
    let n : number_of x k ≡ scaled_at x k (power_of x k) = ap (λ (t : Bool). cond t 0 (scaled_at x k (power_of x k))) e in
    let late : r ≤ 709 = reached test 1000 0 709 (test 0) refl (omega arith) (lt-ltb _ _ (high_power x k f some few)) in
    let fits_at : scaled_at x k r < 10 ^ k = elim (passing test 1000 0 (test 0) refl) [
      | inl passes ↦ ltb-true _ _ passes
      | inr last ↦ absurd (omega (arith, last, late))
    ] in
    let positive : 0 < r = elim (eq-zero-or-pos r) [
      | inl none ↦ absurd (omega (arith, low_power x k f h, subst (λ (q : ℕ). scaled_at x k q < 10 ^ k) none fits_at))
      | inr l ↦ l
    ] in
    let least : (q : ℕ) → q < r → 10 ^ k ≤ scaled_at x k q =
    λ q l. not_below (scaled_at x k q) (10 ^ k) (all_failing test 1000 0 (test 0) refl q (omega arith) l) in
    let up : 10 ^ k ≡ 10 * 10 ^ (k - 1) = ap (λ (j : ℕ). 10 ^ j) {x = k} {y = suc (k - 1)} (omega (arith, some))
    ∙ pow-suc 10 (k - 1) ∙ omega arith in
    let full : 10 ^ (k - 1) ≤ scaled_at x k r = tenth x (10 ^ (k - 1)) k r positive
    (omega (arith, up, least (r - 1) (omega (arith, positive)))) in
    record {
      significant = record {
        is = n;
        fits = subst (λ (v : ℕ). v < 10 ^ k) (sym (n ∙ ap (scaled_at x k) p)) fits_at;
        full = subst (λ (v : ℕ). 10 ^ (k - 1) ≤ v) (sym (n ∙ ap (scaled_at x k) p)) full;
        least = λ q l. least q (omega (arith, l, p));
      };
      few = omega (arith, p, late);
    }
  where
    test : ℕ → Bool
    test q = nat_lt (scaled_at x k q) (10 ^ k)
