use Rattle.std.proofs.Common.{◌∙◌}
use Rattle.sf_forms.proofs.Heading.{object_with, object_without}
use Rattle.sf_forms.proofs.Lone.{ok_then}
use Rattle.sf_forms.proofs.heads.push_object.Goals as goal

pub returns-in-Some-clause-pushed : goal.returns-in-Some-clause-pushed
returns-in-Some-clause-pushed g c =
    ok_then c.push_members.result c.push_members.ensures.pushed (λ e. e ∙ object_with c.args.output.now.items
    c.args.names.now c.args.tag c.in-Some.number c.args.destinations c.args.report.now c.in-Some.is)

pub returns-in-None-clause-pushed : goal.returns-in-None-clause-pushed
returns-in-None-clause-pushed g c =
    ok_then c.push_members-in-None.result c.push_members-in-None.ensures.pushed (λ e. e ∙ object_without c.args.output.now.items
    c.args.names.now c.args.tag c.args.destinations c.args.report.now c.in-None.is)
