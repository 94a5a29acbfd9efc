use Rattle.std.proofs.Common.{◌+◌, ◌-◌, ◌^◌, min, ap, ◌∙◌}
use Rattle.sf_loops.proofs.newlines.count_front.Goals as goal

pub returns : goal.returns
returns c = c.saturating_add.ensures ∙ ap (λ n. min (c.args.lines.now + n) (2 ^ 64 - 1)) c.newlines_of.ensures
