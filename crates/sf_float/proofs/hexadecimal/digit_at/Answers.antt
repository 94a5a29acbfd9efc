use Rattle.std.proofs.Common.{◌/◌, ◌%◌, ap}
use Rattle.sf_float.proofs.Hexadecimals.{sixteens}
use Rattle.sf_float.proofs.hexadecimal.digit_at.Goals as goal

pub returns-clause-value : goal.returns-clause-value
returns-clause-value c = ap (λ t. c.args.m / t % 16) (sixteens c.args.n)
