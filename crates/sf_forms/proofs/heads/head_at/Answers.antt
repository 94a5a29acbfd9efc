use Rattle.std.proofs.Common.{◌∙◌, ap}
use Rattle.sf_forms.specs.Heads.{head}
use Rattle.sf_forms.proofs.Heading.{head_of_tag, tag_is_first}
use Rattle.sf_forms.proofs.heads.head_at.Goals as goal

pub returns-then-column-eq1 : goal.returns-then-column-eq1
returns-then-column-eq1 c =
    head_of_tag
    ∙ ap head (tag_is_first c.args.tagged c.args.names.now c.args.column c.if-tagged.true c.if-column-eq1.true)
