use Rattle.std.proofs.Common.{◌≡◌, ◌+◌, ◌-◌, ◌*◌, ◌/◌, ◌%◌, ◌^◌, ◌<◌, ◌≤◌, nat_eq, not, ℕ, sym, ap, ◌∙◌, subst, arith, pow_pos}
use Rattle.std.proofs.Common.{lt_of_le_of_lt}
use Rattle.std.proofs.lemmas.Nat.{mul-pow, pow-add}
use Rattle.std.proofs.Math.Nat.{pow-le-pow_right, mod-eq_of_lt, mul-le-mul, le_of_lt, div-mul-le_self}
use lib.Dec.{lit<}
use Rattle.sf_float.specs.Quotient.{IsQuotient}
use Rattle.sf_float.proofs.FewestLemmas.Firsts.{quotient_most}
use Rattle.sf_float.proofs.FewestLemmas.Quotients.{quotient, times_both}
use Rattle.sf_float.proofs.fewest.cut.twice_short.Goals as goal

most : (a b : ℕ) → a ≤ b → 5 ^ a ≤ 5 ^ b
most a b l = pow-le-pow_right (lit< tt) {j = b} l

-- a power in two parts
parted : (fives few : ℕ) → few ≤ fives → 5 ^ (fives - few) * 5 ^ few ≡ 5 ^ fives
parted fives few l = let e : fives - few + few ≡ fives = omega arith in sym (pow-add 5 (fives - few) few) ∙ ap (λ t. 5 ^ t) e

-- the product of the three
product : (m fives few s t : ℕ) → few ≤ fives → s ≡ 5 ^ (fives - few) → t ≡ 5 ^ few → m * s * t ≡ m * 5 ^ fives
product m fives few s t l p q = rw (p, q) (omega (arith, ap (λ t. m * t) (parted fives few l)))

fits : (m fives : ℕ) → m < 2 ^ 53 → fives ≤ 31 → m * 5 ^ fives * 2 < 2 ^ 128
fits m fives M l =
    let p : m * 5 ^ fives ≤ 2 ^ 53 * 5 ^ 31 = mul-le-mul (le_of_lt M) (most fives 31 l) in
    let k : 2 ^ 53 * 5 ^ 31 * 2 < 2 ^ 128 = lit< tt in
    omega (arith, p, k)

pub overflow_mul-wide : goal.overflow_mul-wide
overflow_mul-wide c =
    let m = c.args.size.m in
    let p : m * 5 ^ (416 - c.args.first - c.min-few.result) ≤ 2 ^ 53 * 5 ^ 4 =
    mul-le-mul (le_of_lt c.requires.few.0) (most _ 4 (omega (arith, c.min-few.ensures, c.requires.few.1))) in
    let k : 2 ^ 53 * 5 ^ 4 < 2 ^ 64 = lit< tt in
    rw c.five_to.ensures (omega (arith, p, k))

pub overflow_mul-wide-2 : goal.overflow_mul-wide-2
overflow_mul-wide-2 c =
    let e = product c.args.size.m (416 - c.args.first) c.min-few.result c.five_to.result c.five_to-2.result
    (omega (arith, c.min-few.ensures)) c.five_to.ensures c.five_to-2.ensures in
    rw e (omega (arith, fits c.args.size.m (416 - c.args.first) c.requires.few.0 (omega (arith, c.requires.few.1))))

pub overflow_mul-wide-3 : goal.overflow_mul-wide-3
overflow_mul-wide-3 c =
    let e = product c.args.size.m (416 - c.args.first) c.min-few.result c.five_to.result c.five_to-2.result
    (omega (arith, c.min-few.ensures)) c.five_to.ensures c.five_to-2.ensures in
    rw e (omega (arith, fits c.args.size.m (416 - c.args.first) c.requires.few.0 (omega (arith, c.requires.few.1))))

-- the quotient of both parts without as many powers of two
module _ (m t down : ℕ) (M : m < 2 ^ 53) (T : t ≤ 31) (D : t ≤ down) where
  abbrev n : ℕ
  n = m * 5 ^ t * 2

  abbrev d : ℕ
  d = 2 ^ (down - t)

  tens : 10 ^ t ≡ 5 ^ t * 2 ^ t
  tens = mul-pow 5 2 t

  same : n * 2 ^ t ≡ 2 * (m * 10 ^ t)
  same = omega (arith, ap (λ y. m * y) tens)

  divisor : d * 2 ^ t ≡ 2 ^ down
  divisor = let e : down - t + t ≡ down = omega arith in sym (pow-add 2 (down - t) t) ∙ ap (λ y. 2 ^ y) e

  whole : IsQuotient (2 * (m * 10 ^ t)) (2 ^ down) (n / d) (not (nat_eq (n / d * d % 2 ^ 128) n))
  whole =
      let l : n < 2 ^ 128 = fits m t M T in
      let r : n / d * d % 2 ^ 128 ≡ n / d * d = mod-eq_of_lt (lt_of_le_of_lt (div-mul-le_self n d) l) in
      let q : IsQuotient n d (n / d) (not (nat_eq (n / d * d % 2 ^ 128) n)) =
      subst (λ (a : ℕ). IsQuotient n d (n / d) (not (nat_eq a n))) (sym r) (quotient n d (pow_pos (down - t))) in
      rw (← same, ← divisor) (times_both n d (2 ^ t) (n / d) _ (pow_pos t) q)

  few : 2 * (m * 10 ^ t) < 10 ^ 18 * 2 ^ down → n / d < 10 ^ 18
  few h = quotient_most (2 * (m * 10 ^ t)) (2 ^ down) (n / d) (10 ^ 18) _ (pow_pos down) h whole

pub overflow_cast-result : goal.overflow_cast-result
overflow_cast-result c =
    let m = c.args.size.m in
    let t = 416 - c.args.first in
    let p = product m t c.min-few.result c.five_to.result c.five_to-2.result (omega (arith, c.min-few.ensures)) c.five_to.ensures
    c.five_to-2.ensures in
    let l = few m t c.args.size.down c.requires.few.0 (omega (arith, c.requires.few.1)) c.requires.few.3 c.requires.most in
    omega (arith, l, ap (λ y. y * 2 / 2 ^ (c.args.size.down - t)) p)

pub returns : goal.returns
returns c =
    let m = c.args.size.m in
    let t = 416 - c.args.first in
    let d = 2 ^ (c.args.size.down - t) in
    let p = product m t c.min-few.result c.five_to.result c.five_to-2.result (omega (arith, c.min-few.ensures)) c.five_to.ensures
    c.five_to-2.ensures in
    subst (λ (y : ℕ). IsQuotient (2 * (m * 10 ^ t)) (2 ^ c.args.size.down) (y * 2 / d) (not (nat_eq (y * 2 / d * d % 2 ^ 128) (y * 2))))
    (sym p) (whole m t c.args.size.down c.requires.few.0 (omega (arith, c.requires.few.1)) c.requires.few.3)
