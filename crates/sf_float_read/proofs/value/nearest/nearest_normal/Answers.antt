use Rattle.std.proofs.Common.{◌≡◌, ◌+◌, ◌-◌, ◌*◌, ◌/◌, ◌^◌, ◌<◌, ◌≤◌, sym, ap, ◌∙◌, subst, arith, pow_pos}
use Rattle.std.specs.Float.Ieee.{prec, low}
use Rattle.std.specs.Float.Ieee.Nearest.{closest}
use Rattle.fast_float.specs.Rounding.{IsNearestBits, scaled_bits}
use Rattle.sf_float_read.specs.value.Formats.{format_of}
use Rattle.sf_float_read.proofs.ValueLemmas.RoundingCases.{above, normal_cut, normal_exact, cut_few, grown_few}
use Rattle.sf_float_read.proofs.value.nearest.nearest_normal.Goals as goal

pub rounded-requires : goal.rounded-requires
rounded-requires c = (omega (arith, c.if-size-kept.true), omega (arith, c.requires.size.1), c.requires.size.4)

pub packed-requires : goal.packed-requires
packed-requires c =
    let most : c.args.m / 2 ^ (c.args.size - c.digits-kept.result) + 1 ≤ 2 ^ 53 =
    cut_few c.args.m c.args.size c.digits-kept.result c.requires.size.3 c.if-size-kept.true c.digits-kept.ensures.few.1 in
    (omega (arith, c.rounded.ensures.most, most), c.requires.range.1)

pub returns-then-size-kept : goal.returns-then-size-kept
returns-then-size-kept c n up down q e =
    let f = format_of c.args.kind in
    let d = c.digits-kept in
    let l : prec f < c.args.size = omega (arith, d.ensures.value, c.if-size-kept.true) in
    let r : closest (n * 2 ^ low f) (2 ^ (up + low f) * 2 ^ (c.args.size - prec f)) ≡ c.rounded.result =
    ap (λ t. closest (n * 2 ^ low f) (2 ^ (up + low f) * 2 ^ (c.args.size - t))) (sym d.ensures.value)
    ∙ c.rounded.ensures.value (n * 2 ^ low f) (2 ^ (up + low f)) (pow_pos (up + low f))
    (above f n c.args.m up down c.args.size c.args.k c.args.lost q c.requires.size.0 c.requires.size.2 c.requires.size.3) in
    subst (IsNearestBits f n (2 ^ down)) (sym c.packed.ensures)
    (normal_cut f n c.args.m up down c.args.size c.args.k c.args.lost q c.requires.size.0 c.requires.size.2 c.requires.size.3
    c.rounded.result c.requires.range.0 e l r)

pub overflow_mul-whole : goal.overflow_mul-whole
overflow_mul-whole c =
    let most : c.args.m * 2 ^ (c.digits-kept.result - c.args.size) < 2 ^ 53 =
    grown_few c.args.m c.args.size (c.digits-kept.result - c.args.size) c.requires.size.3
    (omega (arith, c.digits-kept.ensures.few.1, c.if-size-kept.false)) in
    omega (arith, ap (λ t. c.args.m * t) c.power.ensures, most)

pub packed-requires-2 : goal.packed-requires-2
packed-requires-2 c =
    let most : c.args.m * 2 ^ (c.digits-kept.result - c.args.size) < 2 ^ 53 =
    grown_few c.args.m c.args.size (c.digits-kept.result - c.args.size) c.requires.size.3
    (omega (arith, c.digits-kept.ensures.few.1, c.if-size-kept.false)) in
    (omega (arith, ap (λ t. c.args.m * t) c.power.ensures, most), c.requires.range.1)

pub returns : goal.returns
returns c n up down q e =
    let f = format_of c.args.kind in
    let d = c.digits-kept in
    let l : c.args.size ≤ prec f = omega (arith, d.ensures.value, c.if-size-kept.false) in
    let w : c.args.m * 2 ^ (prec f - c.args.size) ≡ c.args.m * c.power.result =
    ap (λ t. c.args.m * 2 ^ (t - c.args.size)) (sym d.ensures.value) ∙ ap (λ t. c.args.m * t) (sym c.power.ensures) in
    subst (IsNearestBits f n (2 ^ down)) (ap (λ t. scaled_bits f t c.args.k) w ∙ sym c.packed-2.ensures)
    (normal_exact f n c.args.m up down c.args.size c.args.k c.args.lost q c.requires.size.0 c.requires.size.2 c.requires.size.3
    c.requires.known c.requires.range.0 e l)
