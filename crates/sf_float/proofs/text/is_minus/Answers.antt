use Rattle.std.proofs.Common.{sym, ◌∙◌}
use Rattle.sf_float.proofs.Sorts.{nan_unsigned}
use Rattle.sf_float.proofs.text.is_minus.Goals as goal

pub returns-then-is_nan : goal.returns-then-is_nan
returns-then-is_nan c = sym (nan_unsigned c.args.x (sym c.is_nan.ensures.value ∙ c.if-is_nan.true))
