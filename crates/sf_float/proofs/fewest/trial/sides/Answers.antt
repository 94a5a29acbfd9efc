use Rattle.std.proofs.Common.{ℕ, refl, ◌+◌, ◌-◌, ◌*◌, ◌/◌, ◌%◌, ◌^◌, ◌<◌, ◌≤◌, sym, arith, mod-lt, div-add-mod'}
use Rattle.std.proofs.Math.Nat.{pow-le-pow_right, mul-le-mul_left}
use lib.Dec.{lit<}
use Rattle.sf_float.proofs.Limbs.{power_pos}
use Rattle.sf_float.proofs.FewestLemmas.Cuts.{cut_low, near_low, near_high, other_above, other_below}
use Rattle.sf_float.proofs.fewest.trial.sides.Goals as goal

most : (k : ℕ) → 10 ^ (16 - k) ≤ 10 ^ 16
most k = pow-le-pow_right (lit< tt) {j = 16} (omega arith)

some : (k : ℕ) → 0 < 10 ^ (16 - k)
some k = power_pos 10 (16 - k) (lit< tt)

pub overflow_mul-low : goal.overflow_mul-low
overflow_mul-low c = rw c.ten_to-half.ensures.value (omega (arith, most c.args.decimals))

pub nonzero_div-low : goal.nonzero_div-low
nonzero_div-low c = rw c.ten_to-half.ensures.value (omega (arith, some c.args.decimals))

pub overflow_mul-rest : goal.overflow_mul-rest
overflow_mul-rest c = rw c.ten_to-half.ensures.value (omega (arith, most c.args.decimals))

pub nonzero_rem-rest : goal.nonzero_rem-rest
nonzero_rem-rest c = rw c.ten_to-half.ensures.value (omega (arith, some c.args.decimals))

low_few : (twice h : ℕ) → 0 < h → twice < 2 * 10 ^ 17 → twice / (2 * h) + 1 ≤ 10 ^ 17
low_few twice h H l =
    let e = div-add-mod' twice (2 * h) in
    let m : twice / (2 * h) * 1 ≤ twice / (2 * h) * h = mul-le-mul_left (twice / (2 * h)) H in
    omega (arith, e, m, l)

pub returns-then-is_nearer_below-clause-near : goal.returns-then-is_nearer_below-clause-near
returns-then-is_nearer_below-clause-near c x z =
    let k = c.args.decimals in
    let t = c.args.cut.twice in
    let d = 2 * 10 ^ (16 - k) in
    let y = rw c.ten_to-half.ensures.value at (c.if-is_nearer_below.ensures.yes refl) in
    rw c.ten_to-half.ensures.value (sym (near_low x c.args.cut.first t k (t / d) (t % d) c.args.cut.lost c.requires.few.0 c.requires.few.1 z
    (sym (div-add-mod' t d)) (mod-lt t (omega (arith, some k))) y))

pub returns-then-is_nearer_below-clause-other : goal.returns-then-is_nearer_below-clause-other
returns-then-is_nearer_below-clause-other c x z =
    let k = c.args.decimals in
    let t = c.args.cut.twice in
    let d = 2 * 10 ^ (16 - k) in
    let y = rw c.ten_to-half.ensures.value at (c.if-is_nearer_below.ensures.yes refl) in
    let e = sym (div-add-mod' t d) in
    let l : t % d < d = mod-lt t (omega (arith, some k)) in
    rw c.ten_to-half.ensures.value (other_above x (c.args.cut.first - k) (t / d)
    (cut_low x c.args.cut.first t k (t / d) (t % d) c.args.cut.lost c.requires.few.0 c.requires.few.1 z e l)
    (near_low x c.args.cut.first t k (t / d) (t % d) c.args.cut.lost c.requires.few.0 c.requires.few.1 z e l y))

pub returns-clause-near : goal.returns-clause-near
returns-clause-near c x z =
    let k = c.args.decimals in
    let t = c.args.cut.twice in
    let d = 2 * 10 ^ (16 - k) in
    let y = rw c.ten_to-half.ensures.value at (c.if-is_nearer_below.ensures.no refl) in
    rw c.ten_to-half.ensures.value (sym (near_high x c.args.cut.first t k (t / d) (t % d) c.args.cut.lost c.requires.few.0 c.requires.few.1
    z
    (sym (div-add-mod' t d)) (mod-lt t (omega (arith, some k))) y))

pub returns-clause-other : goal.returns-clause-other
returns-clause-other c x z =
    let k = c.args.decimals in
    let t = c.args.cut.twice in
    let d = 2 * 10 ^ (16 - k) in
    let y = rw c.ten_to-half.ensures.value at (c.if-is_nearer_below.ensures.no refl) in
    let e = sym (div-add-mod' t d) in
    let l : t % d < d = mod-lt t (omega (arith, some k)) in
    rw c.ten_to-half.ensures.value (other_below x (c.args.cut.first - k) (t / d)
    (cut_low x c.args.cut.first t k (t / d) (t % d) c.args.cut.lost c.requires.few.0 c.requires.few.1 z e l)
    (near_high x c.args.cut.first t k (t / d) (t % d) c.args.cut.lost c.requires.few.0 c.requires.few.1 z e l y))

pub returns-then-is_nearer_below-clause-few : goal.returns-then-is_nearer_below-clause-few
returns-then-is_nearer_below-clause-few c =
    let l = low_few c.args.cut.twice (10 ^ (16 - c.args.decimals)) (some c.args.decimals) c.requires.size in
    rw c.ten_to-half.ensures.value (omega (arith, l), l)

pub returns-clause-few : goal.returns-clause-few
returns-clause-few c =
    let l = low_few c.args.cut.twice (10 ^ (16 - c.args.decimals)) (some c.args.decimals) c.requires.size in
    rw c.ten_to-half.ensures.value (l, omega (arith, l))
