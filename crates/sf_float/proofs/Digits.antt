-- The decimal digits of a number in limbs.
use Rattle.std.proofs.Common.{◌≡◌, ℕ, zero, suc, ◌+◌, ◌-◌, ◌*◌, ◌/◌, ◌%◌, ◌^◌, ◌<◌, ◌≤◌, List, get_or, sym, refl, ap, ◌∙◌, arith}
use Rattle.std.proofs.Common.{mul-le-mul_left, pow-suc, mod-lt, div-add-mod', lt_of_lt_of_le}
use Rattle.std.proofs.Math.Nat.{add-mul-div_right, add-mul-mod_self_right, div-div-eq-div-mul, pow-le-pow_right, div-eq_of_lt}
use Rattle.std.proofs.lemmas.Nat.{pow-add, div-mul-add}
use lib.Dec.{lit<}
use Rattle.sf_float.specs.Limbs.{limb_weight, value_below, AreZeroFrom, AreNines}
use Rattle.sf_float.proofs.Limbs.{value_below-suc, value_below-lt, value_below_zeros, limb_weight-suc, power_pos}

pub weight_is : (i : ℕ) → limb_weight i ≡ 10 ^ (i * 9)
unfolding limb_weight
weight_is zero = refl
weight_is (suc i) =
    let e : suc i * 9 ≡ i * 9 + 9 = omega arith in
    pow-suc 1000000000 i ∙ ap (λ t. t * 1000000000) (weight_is i) ∙ sym (pow-add 10 (i * 9) 9) ∙ ap (λ t. 10 ^ t) (sym e)

weight-add : (i k : ℕ) → limb_weight (i + k) ≡ limb_weight i * limb_weight k
unfolding limb_weight
weight-add i k = pow-add 1000000000 i k

-- the limbs below i, that one, and those above
parted : (xs : List ℕ) (i k : ℕ) → (h : ℕ) × (value_below xs (i + 1 + k)
    ≡ value_below xs i + get_or xs i 0 * limb_weight i + h * (limb_weight i * 1000000000))
parted xs i zero =
    let e : i + 1 + 0 ≡ i + 1 = omega arith in
    (0, ap (value_below xs) e ∙ omega (arith, value_below-suc xs i))
parted xs i (suc k) =
    let r = parted xs i k in
    let n = i + 1 + k in
    let e : i + 1 + suc k ≡ n + 1 = omega arith in
    let w : limb_weight n ≡ limb_weight i * 1000000000 * limb_weight k =
    weight-add (i + 1) k ∙ ap (λ t. t * limb_weight k) (limb_weight-suc i) in (
      r.0 + get_or xs n 0 * limb_weight k,
      ap (value_below xs) e ∙ omega (arith, value_below-suc xs n, r.1, ap (λ t. get_or xs n 0 * t) w),
    )

-- the digit t of limb i is the digit i * 9 + t of the number
digit_in : (x h t : ℕ) → t < 9 → (x + h * 1000000000) / 10 ^ t % 10 ≡ x / 10 ^ t % 10
digit_in x h t l =
    let e : t + (1 + (8 - t)) ≡ 9 = omega arith in
    let s : 1000000000 ≡ 10 ^ t * 10 ^ (1 + (8 - t)) = ap (λ k. 10 ^ k) (sym e) ∙ pow-add 10 t (1 + (8 - t)) in
    let u : 10 ^ (1 + (8 - t)) ≡ 10 * 10 ^ (8 - t) = pow-add 10 1 (8 - t) in
    let f : h * 1000000000 ≡ h * 10 ^ (8 - t) * 10 * 10 ^ t = omega (arith, ap (λ k. h * k) s, ap (λ k. h * 10 ^ t * k) u) in
    ap (λ k. (x + k) / 10 ^ t % 10) f
    ∙ ap (λ k. k % 10) (add-mul-div_right x (h * 10 ^ (8 - t) * 10) (power_pos 10 t (lit< tt)))
    ∙ add-mul-mod_self_right (x / 10 ^ t) (h * 10 ^ (8 - t)) 10

digit_of_parts : (low x h w t : ℕ) → low < w → t < 9 → (low + x * w + h * (w * 1000000000)) / (w * 10 ^ t) % 10 ≡ x / 10 ^ t % 10
digit_of_parts low x h w t l s =
    let e : low + x * w + h * (w * 1000000000) ≡ (x + h * 1000000000) * w + low = omega arith in
    ap (λ k. k % 10) (sym (div-div-eq-div-mul _ w (10 ^ t)))
    ∙ ap (λ k. k / w / 10 ^ t % 10) e
    ∙ ap (λ k. k / 10 ^ t % 10) (div-mul-add (x + h * 1000000000) w low l)
    ∙ digit_in x h t s

pub digit_is : (xs : List ℕ) (len n : ℕ) → AreZeroFrom xs len → AreNines xs
    → get_or xs (n / 9) 0 / 10 ^ (n % 9) % 10 ≡ value_below xs len / 10 ^ n % 10
digit_is xs len n z h =
    let i = n / 9 in
    let t = n % 9 in
    let r = parted xs i len in
    let whole : value_below xs (i + 1 + len) ≡ value_below xs len = value_below_zeros xs len (i + 1 + len) z (omega arith) in
    let split : i * 9 + t ≡ n = div-add-mod' n 9 in
    let p : 10 ^ n ≡ limb_weight i * 10 ^ t = ap (λ k. 10 ^ k) (sym split) ∙ pow-add 10 (i * 9) t
    ∙ ap (λ k. k * 10 ^ t) (sym (weight_is i)) in
    sym (digit_of_parts (value_below xs i) (get_or xs i 0) r.0 (limb_weight i) t (value_below-lt xs i h) (mod-lt n (lit< tt)))
    ∙ (λ j. sym r.1 j / (sym p j) % 10)
    ∙ ap (λ k. k / 10 ^ n % 10) whole

-- beyond the room every digit is 0
pub digit_beyond : (v n : ℕ) → v < limb_weight 65 → 65 ≤ n / 9 → 0 ≡ v / 10 ^ n % 10
digit_beyond v n l b =
    let few : 65 * 9 ≤ n = omega (arith, div-add-mod' n 9) in
    let more : 10 ^ (65 * 9) ≤ 10 ^ n = pow-le-pow_right (lit< tt) few in
    let below : v < 10 ^ n = lt_of_lt_of_le (rw (weight_is 65) at l) more in
    ap (λ k. k % 10) (sym (div-eq_of_lt below))

-- how many digits there are, by those of the highest limb
pub count_below : (xs : List ℕ) (i d : ℕ) → 0 < i → AreNines xs → get_or xs (i - 1) 0 < 10 ^ d → value_below xs i < 10 ^ ((i - 1) * 9 + d)
count_below xs i d p h l =
    let e : i - 1 + 1 ≡ i = omega arith in
    let w = limb_weight (i - 1) in
    let s : 10 ^ ((i - 1) * 9 + d) ≡ w * 10 ^ d = pow-add 10 ((i - 1) * 9) d ∙ ap (λ t. t * 10 ^ d) (sym (weight_is (i - 1))) in
    let v : value_below xs i ≡ value_below xs (i - 1) + get_or xs (i - 1) 0 * w = rw e at (value_below-suc xs (i - 1)) in
    omega (arith, s, v, value_below-lt xs (i - 1) h, mul-le-mul_left w l)

pub count_from : (xs : List ℕ) (i d : ℕ) → 0 < i → 0 < d → 10 ^ (d - 1) ≤ get_or xs (i - 1) 0
    → 10 ^ ((i - 1) * 9 + d - 1) ≤ value_below xs i
count_from xs i d p q l =
    let e : i - 1 + 1 ≡ i = omega arith in
    let w = limb_weight (i - 1) in
    let f : (i - 1) * 9 + d - 1 ≡ (i - 1) * 9 + (d - 1) = omega arith in
    let s : 10 ^ ((i - 1) * 9 + d - 1) ≡ w * 10 ^ (d - 1) = ap (λ t. 10 ^ t) f ∙ pow-add 10 ((i - 1) * 9) (d - 1)
    ∙ ap (λ t. t * 10 ^ (d - 1)) (sym (weight_is (i - 1))) in
    let v : value_below xs i ≡ value_below xs (i - 1) + get_or xs (i - 1) 0 * w = rw e at (value_below-suc xs (i - 1)) in
    omega (arith, s, v, mul-le-mul_left w l)
