use Rattle.std.proofs.Common.{◌+◌, ◌*◌, cond, sym, ap, ◌∙◌}
use lib.Ieee.{binary64, ones, hid, top}
use Rattle.sf_float_read.proofs.ValueLemmas.PatternLemmas.{infinite_bits}
use Rattle.sf_float_read.proofs.value.value.infinity_f64.Goals as goal

pub returns-then-negative : goal.returns-then-negative
returns-then-negative c = sym (infinite_bits binary64 c.args.negative
    ∙ ap (λ s. cond s (top binary64) 0 + ones binary64 * hid binary64) c.if-negative.true)

pub returns-else-negative : goal.returns-else-negative
returns-else-negative c = sym (infinite_bits binary64 c.args.negative
    ∙ ap (λ s. cond s (top binary64) 0 + ones binary64 * hid binary64) c.if-negative.false)
