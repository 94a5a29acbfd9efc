use Rattle.std.proofs.Common.{Option, ℕ, subst}
use Rattle.std.specs.Float.Ieee.{binary64}
use Rattle.sf_float_read.specs.value.Values.{IsStored}
use Rattle.sf_float_tests.proofs.Zeros.{with_answer}
use Rattle.sf_float_tests.proofs.items.pattern_of.Goals as goal

pub returns : goal.returns
returns c = with_answer c.value_f64.result (λ bits is. c.stored_bits.ensures binary64 c.args.text.now bits
    (subst (λ (r : Option ℕ). IsStored binary64 c.args.text.now r) is c.value_f64.ensures))
