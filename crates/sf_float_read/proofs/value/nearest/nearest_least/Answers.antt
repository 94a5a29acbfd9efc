use Rattle.std.proofs.Common.{◌-◌, ◌*◌, ◌^◌, ◌<◌, sym, ap, subst, arith, pow_pos}
use Rattle.std.specs.Float.Ieee.{low}
use Rattle.fast_float.specs.Rounding.{IsNearestBits}
use Rattle.sf_float_read.specs.value.Formats.{format_of}
use Rattle.sf_float_read.proofs.ValueLemmas.RoundingCases.{least_none, least_cut, least_exact, grown_few, few_kept}
use Rattle.sf_float_read.proofs.value.nearest.nearest_least.Goals as goal

pub returns-then-down-up : goal.returns-then-down-up
returns-then-down-up c n q =
    least_none (format_of c.args.kind) n c.args.m c.args.up c.args.down c.args.size c.args.lost q c.requires.size.0 c.requires.size.2
    c.requires.size.3 c.requires.range.0 c.requires.size.1 c.if-down-up.true

pub returns-then-down-up-2 : goal.returns-then-down-up-2
returns-then-down-up-2 c n q =
    least_cut (format_of c.args.kind) n c.args.m c.args.up c.args.down c.args.size c.args.lost q c.requires.size.0 c.requires.size.2
    c.requires.size.3 c.requires.range.0 c.rounded.result c.if-down-up-2.true
    (c.rounded.ensures.value (n * 2 ^ low (format_of c.args.kind)) (2 ^ c.args.up) (pow_pos c.args.up) q)

pub overflow_mul-result : goal.overflow_mul-result
overflow_mul-result c =
    let most : c.args.m * 2 ^ (c.args.up - c.args.down) < 2 ^ 53 =
    grown_few c.args.m c.args.size (c.args.up - c.args.down) c.requires.size.3
    (omega (arith, c.requires.range.0, few_kept (format_of c.args.kind), c.if-down-up-2.false)) in
    omega (arith, ap (λ t. c.args.m * t) c.power.ensures, most)

pub returns : goal.returns
returns c n q =
    subst (IsNearestBits (format_of c.args.kind) n (2 ^ c.args.down)) (ap (λ t. c.args.m * t) (sym c.power.ensures))
    (least_exact (format_of c.args.kind) n c.args.m c.args.up c.args.down c.args.size c.args.lost q c.requires.size.0 c.requires.size.2
    c.requires.size.3 c.requires.range.0 c.requires.known c.if-down-up-2.false)
