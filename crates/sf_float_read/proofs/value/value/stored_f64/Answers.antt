use Rattle.std.proofs.Common.{Some, sym, ap, ◌∙◌}
use lib.Ieee.{binary64}
use Rattle.sf_float_read.proofs.ValueLemmas.PatternLemmas.{nan_bits, nan_stored}
use Rattle.sf_float_read.proofs.value.value.stored_f64.Goals as goal

pub returns-then-is_nan : goal.returns-then-is_nan
returns-then-is_nan c = ap Some (sym (nan_bits binary64)) ∙ nan_stored binary64 c.args.x (sym c.is_nan.ensures.value ∙ c.if-is_nan.true)
