use Rattle.std.specs.Float.Ieee.{binary32}
use Rattle.sf_float_read.proofs.ValueLemmas.Decimals.{decimal_stored}
use Rattle.sf_float_read.proofs.value.value.decimal_value_f32.Goals as goal

pub returns : goal.returns
returns c item is =
    decimal_stored item c.args.negative c.args.digits c.args.places is binary32 c.quotient_f32.result c.stored_f32.result
    c.quotient_f32.ensures
    c.stored_f32.ensures
