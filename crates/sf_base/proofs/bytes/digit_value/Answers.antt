use Rattle.std.proofs.Common.{rules}
use Rattle.sf_base.proofs.bytes.digit_value.Goals as goal

pub returns-then-value-base : goal.returns-then-value-base
returns-then-value-base c = search rules
