use Rattle.sf_pair.proofs.ConversionLemmas.RealCode.{read_as_so, not_read_as}
use Rattle.sf_pair.proofs.doubles.is_read_as.Goals as goal

pub returns-then-is_float : goal.returns-then-is_float
returns-then-is_float c = read_as_so c.laws_below.ensures c.args.item.now c.args.bits c.value_f64.result c.eq.result
    (c.is_float.ensures.0 c.if-is_float.true) c.value_f64.ensures c.eq.ensures

pub returns-else-is_float : goal.returns-else-is_float
returns-else-is_float c =
    not_read_as c.laws_below.ensures c.args.item.now c.args.bits c.is_float.result c.if-is_float.false c.is_float.ensures.1
