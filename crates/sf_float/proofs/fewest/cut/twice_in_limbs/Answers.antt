use Rattle.std.proofs.Common.{◌≡◌, ◌+◌, ◌-◌, ◌*◌, ◌^◌, ◌<◌, ◌≤◌, refl, arith, mul-le-mul_left, ap, subst, ℕ, lt_of_le_of_lt, one-mul}
use Rattle.std.proofs.lemmas.Nat.{pow-add}
use Rattle.sf_float.specs.Quotient.{IsQuotient}
use Rattle.sf_float.specs.Limbs.{limb_weight}
use Rattle.sf_float.proofs.Firsts.{scaled_room}
use Rattle.sf_float.proofs.Limbs.{power_pos}
use Rattle.sf_float.proofs.fewest.cut.twice_in_limbs.Goals as goal

room : (m up down first : ℕ) → m < 2 ^ 53 → up < 972 → down ≤ 1074 → 10 ^ 400 * (m * 2 ^ up) < 2 * 10 ^ (first + 1) * 2 ^ down
    → m * 2 ^ (up + 1) * 10 ^ (416 - first) < limb_weight 65
room m up down first M U V h =
    scaled_room m up down (416 - first) (first - 416) 17 (first + 1) M U V (omega arith) (λ l. omega (arith, l)) (omega arith) h

pub times_two_to-requires : goal.times_two_to-requires
times_two_to-requires c =
    let z = c.args.size in
    let a = z.m * 2 ^ (z.up + 1) in
    let few : a ≤ a * 10 ^ (416 - c.args.first) = omega (arith, mul-le-mul_left a (power_pos 10 (416 - c.args.first) (omega arith))) in
    rw c.new-n.ensures (lt_of_le_of_lt few
    (room z.m z.up z.down c.args.first c.requires.few.0 c.requires.few.1 c.requires.few.2 c.requires.from))

pub times_ten_to-requires : goal.times_ten_to-requires
times_ten_to-requires c =
    let z = c.args.size in
    rw (c.times_two_to.ensures, c.new-n.ensures, c.saturating_sub.ensures)
    (room z.m z.up z.down c.args.first c.requires.few.0 c.requires.few.1 c.requires.few.2 c.requires.from)

pub returns : goal.returns
returns c =
    let p : 2 ^ (c.args.size.up + 1) ≡ 2 ^ c.args.size.up * 2 = pow-add 2 c.args.size.up 1 in
    let n : c.times_ten_to.new.self ≡ c.args.size.m * 2 ^ (c.args.size.up + 1) * 10 ^ (416 - c.args.first) =
    rw (c.times_ten_to.ensures, c.times_two_to.ensures, c.new-n.ensures, c.saturating_sub.ensures) refl in
    let e : 2 * (c.args.size.m * 2 ^ c.args.size.up * 10 ^ (416 - c.args.first)) ≡ c.times_ten_to.new.self * 1 =
    omega (arith, n, ap (λ t. c.args.size.m * t * 10 ^ (416 - c.args.first)) p) in
    let q = c.over_two_to-lost.ensures _ 1 (omega arith) e in
    let d : 1 * 2 ^ c.args.size.down ≡ 2 ^ c.args.size.down = one-mul (2 ^ c.args.size.down) in
    let some : 0 < 1 * 2 ^ c.args.size.down = rw d (power_pos 2 c.args.size.down (omega arith)) in
    subst (λ (t : ℕ). IsQuotient (2 * (c.args.size.m * 2 ^ c.args.size.up * 10 ^ (416 - c.args.first))) t c.over_ten_to-lost.new.self
    c.over_ten_to-lost.result)
    (ap (λ t. t * 10 ^ (c.args.first - 416)) d) (rw c.saturating_sub-2.ensures at (c.over_ten_to-lost.ensures _ _ some q))
