-- The number that limbs hold, limb by limb.
use Rattle.std.proofs.Common.{◌≡◌, ℕ, zero, suc, ◌+◌, ◌-◌, ◌*◌, ◌/◌, ◌%◌, ◌^◌, ◌<◌, ◌≤◌, List, [], ◌∷◌, div-lt_iff_lt-mul, replicate}
use Rattle.std.proofs.Common.{length, get_or, slice_index, set, refl, ap, ◌∙◌, inl, inr, arith, add-one, eq-zero-or-pos, mul-le-mul_right}
use Rattle.std.proofs.Common.{mul-le-mul_left, mul-pos, lt_of_lt_of_le, pow-suc}
use Rattle.std.proofs.Math.Nat.{pow-zero}
use lib.Dec.{lit≤}
use lib.Pow.{pow-add}
use lib.Seq.{get_or-set_same, get_or-set_other}
use Rattle.sf_float.specs.Limbs.{limb_weight, value_below, AreZeroFrom, AreNines}

pub value_below-zero : (xs : List ℕ) → value_below xs 0 ≡ 0
unfolding value_below
value_below-zero xs = refl

pub value_below-suc : (xs : List ℕ) (i : ℕ) → value_below xs (i + 1) ≡ value_below xs i + get_or xs i 0 * limb_weight i
unfolding value_below
value_below-suc xs i = rw add-one

pub limb_weight-zero : limb_weight 0 ≡ 1
unfolding limb_weight
limb_weight-zero = refl

pub limb_weight-suc : (i : ℕ) → limb_weight (i + 1) ≡ limb_weight i * 1000000000
unfolding limb_weight
limb_weight-suc i = rw add-one (pow-suc 1000000000 i)

pub value_below_same : (xs ys : List ℕ) (n : ℕ) → ((i : ℕ) → i < n → get_or xs i 0 ≡ get_or ys i 0) → value_below xs n ≡ value_below ys n
unfolding value_below
value_below_same xs ys zero h = refl
value_below_same xs ys (suc n) h = λ j. value_below_same xs ys n (λ i l. h i (omega arith)) j + h n (omega arith) j * limb_weight n

pub value_below-set : (xs : List ℕ) (i v : ℕ) → i < length xs → value_below (set xs i v) (i + 1) ≡ value_below xs i + v * limb_weight i
value_below-set xs i v h =
    value_below-suc (set xs i v) i
    ∙ (λ j. value_below_same (set xs i v) xs i (λ k l. get_or-set_other xs i k v 0 (λ e. omega arith)) j + get_or-set_same xs i v 0 h j *
    limb_weight i)

-- a limb that is changed, among n
pub value_below-set_at : (xs : List ℕ) (i v n : ℕ) → i < length xs → i < n
    → value_below (set xs i v) n + get_or xs i 0 * limb_weight i ≡ value_below xs n + v * limb_weight i
unfolding value_below
value_below-set_at xs i v zero h l = absurd (omega arith)
value_below-set_at xs i v (suc n) h l =
    elim (eq-zero-or-pos (n - i)) [
      | inl z ↦
          let e : n ≡ i = omega arith in
          let below : value_below (set xs i v) i ≡ value_below xs i =
          value_below_same (set xs i v) xs i (λ k m. get_or-set_other xs i k v 0 (λ q. omega arith)) in
          rw e (omega (arith, below, ap (λ t. t * limb_weight i) (get_or-set_same xs i v 0 h)))
      | inr p ↦
          omega (
            arith,
            value_below-set_at xs i v n h (omega arith),
            ap (λ t. t * limb_weight n) (get_or-set_other xs i n v 0 (λ q. omega arith)),
          )
    ]

pub value_below-lt : (xs : List ℕ) (n : ℕ) → AreNines xs → value_below xs n < limb_weight n
unfolding value_below limb_weight
value_below-lt xs zero h = omega arith
value_below-lt xs (suc n) h = omega (arith, value_below-lt xs n h, pow-suc 1000000000 n, mul-le-mul_right (limb_weight n) (h n))

-- limbs that are 0 add nothing
pub value_below_zeros : (xs : List ℕ) (n m : ℕ) → AreZeroFrom xs n → n ≤ m → value_below xs m ≡ value_below xs n
unfolding value_below
value_below_zeros xs n zero z h = let e : 0 ≡ n = omega arith in ap (value_below xs) e
value_below_zeros xs n (suc m) z h =
    elim (eq-zero-or-pos (suc m - n)) [
      | inl e ↦ let s : suc m ≡ n = omega arith in ap (value_below xs) s
      | inr p ↦ omega (arith, value_below_zeros xs n m z (omega arith), ap (λ x. x * limb_weight m) (z m (omega arith)))
    ]

-- one limb's step of a multiplication
pub mul_add_step : (done old x by add carry w : ℕ) → done + carry * w ≡ old * by + add
    → done + (x * by + carry) % 1000000000 * w + (x * by + carry) / 1000000000 * (w * 1000000000) ≡ (old + x * w) * by + add
mul_add_step done old x by add carry w h =
    let wide = x * by + carry in
    let parts : wide % 1000000000 + wide / 1000000000 * 1000000000 ≡ x * by + carry = omega arith in
    omega (arith, ap (λ t. t * w) parts)

-- what is multiplied fits 64 bits, and its carry nine digits
pub wide_fits : (x by carry : ℕ) → x < 1000000000 → by ≤ 1000000000 → carry < 1000000000 → x * by + carry < 1000000000000000000
wide_fits x by carry X B C = omega (arith, mul-le-mul_left x B)

-- one limb's step of a division, from the top
pub div_step : (whole new new2 old x by rest q r w : ℕ) → whole + old * by + x * w * by ≡ new * by + rest * (w * 1000000000) + (old + x * w)
    → rest * 1000000000 + x ≡ q * by + r → new2 + x * w ≡ new + q * w → whole + old * by ≡ new2 * by + r * w + old
div_step whole new new2 old x by rest q r w h e n = omega (arith, ap (λ t. t * w) e, ap (λ t. t * by) n)

pub small_fits : (n : ℕ) → n < 1000000000000000000000000000 → n < limb_weight 65
unfolding limb_weight
small_fits n h = lt_of_lt_of_le h (lit≤ tt)

pub zeros : (n i : ℕ) → slice_index (replicate n 0) i ≡ 0
zeros zero i = refl
zeros (suc n) zero = refl
zeros (suc n) (suc i) = zeros n i

pub power_pos : (b k : ℕ) → 0 < b → 0 < b ^ k
power_pos b zero p = rw pow-zero (omega arith)
power_pos b (suc k) p = rw pow-suc (mul-pos (power_pos b k p) p)

-- k of the n factors are multiplied in first
pub power_step : (b k x n : ℕ) → 0 < b → k ≤ n → ((x * b ^ k + 0) * b ^ (n - k) ≡ x * b ^ n) × (x * b ^ k ≤ x * b ^ n)
power_step b k x n p h =
    let e : n ≡ k + (n - k) = omega arith in
    let s : b ^ n ≡ b ^ k * b ^ (n - k) = ap (λ y. b ^ y) e ∙ pow-add b k (n - k) in
    (omega (arith, ap (λ y. x * y) s), omega (arith, ap (λ y. x * y) s, mul-le-mul_left (x * b ^ k) (power_pos b (n - k) p)))

pub nines-set : (xs : List ℕ) (i v : ℕ) → AreNines xs → v < 1000000000 → AreNines (set xs i v)
nines-set [] i v h s k = h k
nines-set (x ∷ xs) zero v h s zero = s
nines-set (x ∷ xs) zero v h s (suc k) = h (suc k)
nines-set (x ∷ xs) (suc i) v h s zero = h 0
nines-set (x ∷ xs) (suc i) v h s (suc k) = nines-set xs i v (λ j. h (suc j)) s k

pub zero_from-set : (xs : List ℕ) (n v : ℕ) → AreZeroFrom xs n → AreZeroFrom (set xs n v) (n + 1)
zero_from-set xs n v z i h = get_or-set_other xs n i v 0 (λ e. omega arith) ∙ z i (omega arith)

-- limbs without their last, which is 0
pub value_below_short : (xs : List ℕ) (n : ℕ) → 0 < n → get_or xs (n - 1) 0 ≡ 0 → value_below xs n ≡ value_below xs (n - 1)
value_below_short xs n p z = let e : n - 1 + 1 ≡ n = omega arith in
    omega (arith, rw e at (value_below-suc xs (n - 1)), ap (λ t. t * limb_weight (n - 1)) z)

pub zero_from_short : (xs : List ℕ) (n : ℕ) → get_or xs (n - 1) 0 ≡ 0 → AreZeroFrom xs n → AreZeroFrom xs (n - 1)
zero_from_short xs n z h i l =
    elim (eq-zero-or-pos (n - i)) [
      | inl e ↦ h i (omega arith)
      | inr p ↦ let s : n - 1 ≡ i = omega arith in rw s at z
    ]

pub quotient_fits : (rest x by : ℕ) → rest < by → x < 1000000000 → (rest * 1000000000 + x) / by < 1000000000
quotient_fits rest x by R X =
    let some : 0 < by = omega arith in (div-lt_iff_lt-mul some).1 (omega (arith, mul-le-mul_right 1000000000 R))

pub wide_rest_fits : (rest x by : ℕ) → rest < by → by ≤ 1000000000 → x < 1000000000 → rest * 1000000000 + x < 1000000000000000000
wide_rest_fits rest x by R B X = omega arith

pub bounded : (xs : List ℕ) (n : ℕ) → n ≤ 65 → AreZeroFrom xs n → AreNines xs → value_below xs n < limb_weight 65
bounded xs n l z h = omega (arith, value_below-lt xs 65 h, value_below_zeros xs n 65 z l)

-- the limb before i, taken into the number of those from i on
pub limb_taken : (xs : List ℕ) (i number : ℕ) → 0 < i
    → value_below xs i + number * limb_weight i
    ≡ value_below xs (i - 1) + (number * 1000000000 + get_or xs (i - 1) 0) * limb_weight (i - 1)
limb_taken xs i number p =
    let e : i - 1 + 1 ≡ i = omega arith in
    let below = rw e at (value_below-suc xs (i - 1)) in
    let weight = rw e at (limb_weight-suc (i - 1)) in
    omega (arith, below, ap (λ w. number * w) weight)

-- what the upper limbs hold is no more than the number
pub upper_within : (whole low number i : ℕ) → whole ≡ low + number * limb_weight i → number ≤ whole
unfolding limb_weight
upper_within whole low number i e = omega (arith, e, mul-le-mul_left number (power_pos 1000000000 i (lit≤ tt)))
