use Rattle.std.proofs.Common.{◌+◌, ◌*◌, cond, sym, ap, ◌∙◌}
use lib.Ieee.{binary32, ones, hid, top}
use Rattle.sf_float_read.proofs.ValueLemmas.PatternLemmas.{infinite_bits}
use Rattle.sf_float_read.proofs.value.value.infinity_f32.Goals as goal

pub returns-then-negative : goal.returns-then-negative
returns-then-negative c = sym (infinite_bits binary32 c.args.negative
    ∙ ap (λ s. cond s (top binary32) 0 + ones binary32 * hid binary32) c.if-negative.true)

pub returns-else-negative : goal.returns-else-negative
returns-else-negative c = sym (infinite_bits binary32 c.args.negative
    ∙ ap (λ s. cond s (top binary32) 0 + ones binary32 * hid binary32) c.if-negative.false)
