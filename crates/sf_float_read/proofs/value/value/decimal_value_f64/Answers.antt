use Rattle.std.specs.Float.Ieee.{binary64}
use Rattle.sf_float_read.proofs.ValueLemmas.Decimals.{decimal_stored}
use Rattle.sf_float_read.proofs.value.value.decimal_value_f64.Goals as goal

pub returns : goal.returns
returns c item is =
    decimal_stored item c.args.negative c.args.digits c.args.places is binary64 c.quotient_f64.result c.stored_f64.result
    c.quotient_f64.ensures
    c.stored_f64.ensures
