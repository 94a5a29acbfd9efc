use Rattle.std.proofs.Common.{◌∙◌, sym}
use Rattle.sf_base.proofs.Blanks.{trimmed_end_last_white, trimmed_end_last_ink}
use Rattle.sf_base.proofs.bytes.trimmed_end.Goals as goal

pub returns-then-not-is_space : goal.returns-then-not-is_space
returns-then-not-is_space c =
    sym (trimmed_end_last_ink _ c.in-len1-up.len_at_least (sym c.is_space.ensures ∙ c.if-not-is_space.true)) ∙ c.loop-rest.invariant

pub loop-rest-preserved : goal.loop-rest-preserved
loop-rest-preserved c =
    trimmed_end_last_white _ c.in-len1-up.len_at_least (sym c.is_space.ensures ∙ c.if-not-is_space.false) ∙ c.loop-rest.invariant
