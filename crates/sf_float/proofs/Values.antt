-- The value of a float as one fraction or another.
use Rattle.std.proofs.Common.{◌≡◌, ℕ, suc, ◌+◌, ◌-◌, ◌*◌, ◌^◌, ◌<◌, ◌≤◌, Bool, false, sym, ap, ◌∙◌, arith, subst, ◌/◌, ◌%◌, div-add-mod'}
use Rattle.std.proofs.Common.{mod-lt, pow_pos, pow_mono, lt_of_lt_of_le}
use Rattle.std.proofs.lemmas.Nat.{pow-add}
use Rattle.std.proofs.Math.Nat.{pow-le-pow_right, mul-le-mul, le_of_lt, lt_of_le_of_lt}
use Rattle.std.proofs.Math.Pow.{shl_lt}
use lib.Dec.{lit<}
use Rattle.fast_float.proofs.Patterns.{of_bits_value, field_units}
use Rattle.sf_float.specs.Limbs.{limb_weight}
use Rattle.std.specs.Float.Ieee.{Float, nan, inf, fin, up, down, binary64, of_bits}
use Rattle.std.specs.Float.Ieee.Exact.{HasValue}
use native.Mathlib.Nat.{eq_of_mul-eq-mul_right}

pub value_as : (x : Float) (s : Bool) (a c b d : ℕ) → 0 < c → a * d ≡ b * c → HasValue x s a c → HasValue x s b d
value_as nan s a c b d C e h = absurd h
value_as (inf t) s a c b d C e h = absurd h
value_as (fin t m z) s a c b d C e h =
    (h.0, eq_of_mul-eq-mul_right c C (m * up z * d) (b * down z) (omega (arith, ap (λ t. t * d) h.1, ap (λ t. t * down z) e)))

-- ---- the value of a pattern of binary64

abbrev hidden : ℕ
hidden = 4503599627370496

pub at_pattern : (bits : ℕ) → bits < 9218868437227405312 → HasValue (of_bits binary64 bits) false
    (field_units binary64 (bits / hidden) (bits % hidden)) (2 ^ 1074)
at_pattern bits h =
    subst (λ b. HasValue (of_bits binary64 b) false (field_units binary64 (bits / hidden) (bits % hidden)) (2 ^ 1074))
    (div-add-mod' bits hidden)
    (of_bits_value binary64 (bits / hidden) (bits % hidden) (omega arith) (mod-lt bits (lit< tt)))

pub least_field : (bits : ℕ) → bits < 9218868437227405312 → bits / hidden ≡ 0
    → HasValue (of_bits binary64 bits) false (bits % hidden * 1) (2 ^ 1074)
least_field bits h e = subst (λ x. HasValue (of_bits binary64 bits) false (field_units binary64 x (bits % hidden)) (2 ^ 1074)) e
    (at_pattern bits h)

pub at_field : (bits j : ℕ) → bits < 9218868437227405312 → bits / hidden ≡ suc j
    → HasValue (of_bits binary64 bits) false ((hidden + bits % hidden) * 2 ^ j) (2 ^ 1074)
at_field bits j h e = subst (λ x. HasValue (of_bits binary64 bits) false (field_units binary64 x (bits % hidden)) (2 ^ 1074)) e
    (at_pattern bits h)

pub high_field : (bits : ℕ) → bits < 9218868437227405312 → 1075 < bits / hidden
    → HasValue (of_bits binary64 bits) false ((hidden + bits % hidden) * 2 ^ (bits / hidden - 1075)) (2 ^ 0)
high_field bits h l =
    let j = bits / hidden - 1 in
    let i = bits / hidden - 1075 in
    let e : bits / hidden ≡ suc j = omega arith in
    let k : j ≡ i + 1074 = omega arith in
    let p : 2 ^ j ≡ 2 ^ i * 2 ^ 1074 = ap (λ t. 2 ^ t) k ∙ pow-add 2 i 1074 in
    value_as (of_bits binary64 bits) false ((hidden + bits % hidden) * 2 ^ j) (2 ^ 1074) ((hidden + bits % hidden) * 2 ^ i) (2 ^ 0)
    (pow_pos 1074) (omega (arith, ap (λ t. (hidden + bits % hidden) * t) p)) (at_field bits j h e)

pub low_field : (bits : ℕ) → bits < 9218868437227405312 → 0 < bits / hidden → bits / hidden ≤ 1075
    → HasValue (of_bits binary64 bits) false ((hidden + bits % hidden) * 1) (2 ^ (1075 - bits / hidden))
low_field bits h s l =
    let j = bits / hidden - 1 in
    let i = 1075 - bits / hidden in
    let e : bits / hidden ≡ suc j = omega arith in
    let k : j + i ≡ 1074 = omega arith in
    let p : 2 ^ j * 2 ^ i ≡ 2 ^ 1074 = sym (pow-add 2 j i) ∙ ap (λ t. 2 ^ t) k in
    value_as (of_bits binary64 bits) false ((hidden + bits % hidden) * 2 ^ j) (2 ^ 1074) ((hidden + bits % hidden) * 1) (2 ^ i)
    (pow_pos 1074) (omega (arith, ap (λ t. (hidden + bits % hidden) * t) p)) (at_field bits j h e)

-- a size times a power of ten has room
most : 2 ^ 1025 * 10 ^ 255 < limb_weight 65
unfolding limb_weight
most = lit< tt

pub fixed_room : (m u p : ℕ) → m < 2 ^ 53 → u < 972 → p ≤ 255 → m * 2 ^ (u + 1) * 10 ^ p < limb_weight 65
fixed_room m u p M U P =
    let a : m * 2 ^ (u + 1) < 2 ^ (53 + (u + 1)) = shl_lt 53 (u + 1) M in
    let k : 53 + (u + 1) ≤ 1025 = omega arith in
    let b : 2 ^ (53 + (u + 1)) ≤ 2 ^ 1025 = pow_mono k in
    lt_of_le_of_lt (mul-le-mul (le_of_lt (lt_of_lt_of_le a b)) (pow-le-pow_right (lit< tt) P)) most
