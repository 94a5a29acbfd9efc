use Rattle.std.proofs.Common.{◌^◌, ap, ◌∙◌, arith}
use Rattle.std.specs.Float.Ieee.Nearest.{closest}
use Rattle.sf_float.proofs.ShortNumbers.{product, product_fits}
use Rattle.sf_float.proofs.short.nearest_short.Goals as goal

pub shifted-n-requires : goal.shifted-n-requires
shifted-n-requires c =
    let p = product c.args.m c.args.tens c.min-few.result c.ten_to.result c.ten_to-2.result (omega (arith, c.min-few.ensures))
    c.ten_to.ensures.value c.ten_to-2.ensures.value in
    let l = product_fits c.args.m c.args.tens (omega (arith, c.if-m-ge9007199254740992.false)) (omega (arith, c.if-tens-gt22.false)) in
    (omega (arith, p, l), omega (arith, c.if-down-gt126.false))

pub returns : goal.returns
returns c =
    let p = product c.args.m c.args.tens c.min-few.result c.ten_to.result c.ten_to-2.result (omega (arith, c.min-few.ensures))
    c.ten_to.ensures.value c.ten_to-2.ensures.value in
    c.shifted-n.ensures ∙ ap (λ t. closest t (2 ^ c.args.down)) p
