-- Numbers of 64 and 128 bits: products with powers of ten, and how many digits stand before the point.
use Rattle.std.proofs.Common.{◌≡◌, ℕ, ◌+◌, ◌-◌, ◌*◌, ◌/◌, ◌^◌, ◌<◌, ◌≤◌, sym, ap, ◌∙◌, subst, arith, div-lt_iff_lt-mul}
use Rattle.std.proofs.lemmas.Nat.{pow-add}
use Rattle.std.proofs.Math.Nat.{pow-le-pow_right, mul-le-mul, le_of_lt, le-div_iff_mul-le}
use lib.Dec.{lit<}
use Rattle.sf_float.specs.Texts.{IsCount}
use Rattle.sf_float.proofs.Limbs.{power_pos}

-- a power in two parts
parted : (tens few : ℕ) → few ≤ tens → 10 ^ (tens - few) * 10 ^ few ≡ 10 ^ tens
parted tens few l = let e : tens - few + few ≡ tens = omega arith in sym (pow-add 10 (tens - few) few) ∙ ap (λ t. 10 ^ t) e

pub product : (m tens few s t : ℕ) → few ≤ tens → s ≡ 10 ^ (tens - few) → t ≡ 10 ^ few → m * s * t ≡ m * 10 ^ tens
product m tens few s t l p q = rw (p, q) (omega (arith, ap (λ t. m * t) (parted tens few l)))

-- the first factor
pub first_fits : (m few : ℕ) → m < 2 ^ 53 → few ≤ 3 → m * 10 ^ few < 2 ^ 64
first_fits m few M l =
    let p : m * 10 ^ few ≤ 2 ^ 53 * 10 ^ 3 = mul-le-mul (le_of_lt M) (pow-le-pow_right (lit< tt) {j = 3} l) in
    let k : 2 ^ 53 * 10 ^ 3 < 2 ^ 64 = lit< tt in
    omega (arith, p, k)

-- the whole product
pub product_fits : (m tens : ℕ) → m < 2 ^ 53 → tens ≤ 22 → m * 10 ^ tens < 2 ^ 127
product_fits m tens M l =
    let p : m * 10 ^ tens ≤ 2 ^ 53 * 10 ^ 22 = mul-le-mul (le_of_lt M) (pow-le-pow_right (lit< tt) {j = 22} l) in
    let k : 2 ^ 53 * 10 ^ 22 < 2 ^ 127 = lit< tt in
    omega (arith, p, k)

-- as many digits before the point as the whole part has
pub count_before : (n decimals count : ℕ) → IsCount 0 (n / 10 ^ decimals) count → IsCount decimals n count
count_before n decimals count c =
    let D : 0 < 10 ^ decimals = power_pos 10 decimals (lit< tt) in
    let e : count + 0 ≡ count = omega arith in
    let f : count - 1 + 0 ≡ count - 1 = omega arith in
    let fits : n / 10 ^ decimals < 10 ^ count = subst (λ k. n / 10 ^ decimals < 10 ^ k) e c.fits in
    record {
      some = c.some;
      fits = rw (pow-add 10 count decimals) ((div-lt_iff_lt-mul D).0 fits);
      least = λ l. rw (pow-add 10 (count - 1) decimals) ((le-div_iff_mul-le D).0 (subst (λ k. 10 ^ k ≤ n / 10 ^ decimals) f (c.least l)));
    }
