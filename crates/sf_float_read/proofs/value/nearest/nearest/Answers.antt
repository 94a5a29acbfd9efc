use Rattle.std.proofs.Common.{◌≡◌, ℕ, ◌+◌, ◌-◌, ◌*◌, ◌^◌, ◌<◌, sym, ◌∙◌, subst, arith}
use Rattle.std.specs.Float.Ieee.{prec, low}
use Rattle.std.specs.Float.Ieee.Nearest.{closest}
use Rattle.fast_float.specs.Rounding.{IsNearestBits}
use Rattle.sf_float.specs.Quotient.{IsQuotient}
use Rattle.sf_float_read.specs.value.Formats.{format_of}
use Rattle.sf_float_read.proofs.ValueLemmas.RoundingCases.{above, normal, infinite_at, size_of}
use Rattle.sf_float_read.proofs.value.nearest.nearest.Goals as goal

pub nearest_least-requires-clause-size : goal.nearest_least-requires-clause-size
nearest_least-requires-clause-size c = size_of c.ilog2-size.result c.args.m c.ilog2-size.ensures.power_le
    c.ilog2-size.ensures.next_power_gt c.requires.some.1

pub returns-then-size-above : goal.returns-then-size-above
returns-then-size-above c n q =
    let f = format_of c.args.kind in
    let s = size_of c.ilog2-size.result c.args.m c.ilog2-size.ensures.power_le c.ilog2-size.ensures.next_power_gt c.requires.some.1 in
    c.nearest_least.ensures n
    (subst (λ (t : ℕ). IsQuotient (n * 2 ^ low f) (2 ^ (c.args.up + t)) c.args.m c.args.lost) (sym c.least.ensures.value)
    (above f n c.args.m c.args.up c.args.down (c.ilog2-size.result + 1) 0 c.args.lost q s.0 s.2 s.3))

pub returns-then-k-gt2100 : goal.returns-then-k-gt2100
returns-then-k-gt2100 c n q =
    let f = format_of c.args.kind in
    let r = c.ilog2-size.result in
    let k = r + 1 + (c.args.up + c.least.result) - (c.digits.result + c.args.down) in
    let s = size_of r c.args.m c.ilog2-size.ensures.power_le c.ilog2-size.ensures.next_power_gt c.requires.some.1 in
    let some : 0 < k = omega (arith, c.if-k-gt2100.true) in
    let e : r + 1 + (c.args.up + low f) ≡ k + (prec f + c.args.down) =
    omega (arith, c.if-size-above.false, c.least.ensures.value, c.digits.ensures.value) in
    subst (IsNearestBits f n (2 ^ c.args.down)) (infinite_at f (closest (n * 2 ^ low f) (2 ^ c.args.down * 2 ^ k)) k c.if-k-gt2100.true
    ∙ sym c.infinity.ensures)
    (normal f n c.args.m c.args.up c.args.down (r + 1) k c.args.lost q s.0 s.2 s.3 some e)

pub nearest_normal-requires-clause-size : goal.nearest_normal-requires-clause-size
nearest_normal-requires-clause-size c = size_of c.ilog2-size.result c.args.m c.ilog2-size.ensures.power_le
    c.ilog2-size.ensures.next_power_gt c.requires.some.1

pub returns : goal.returns
returns c n q =
    let f = format_of c.args.kind in
    let r = c.ilog2-size.result in
    let k = r + 1 + (c.args.up + c.least.result) - (c.digits.result + c.args.down) in
    c.nearest_normal.ensures n c.args.up c.args.down q (omega (arith, c.if-size-above.false, c.least.ensures.value, c.digits.ensures.value))
