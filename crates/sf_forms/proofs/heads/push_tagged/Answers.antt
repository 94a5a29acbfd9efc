use Rattle.std.proofs.Common.{◌∙◌, List, ◌++◌, Option, ap, sym, ℕ}
use Rattle.sf_forms.specs.Forms.{framed, slot_text}
use Rattle.sf_forms.specs.Heads.{columns}
use Rattle.sf_forms.proofs.Heading.{tagged_columns}
use Rattle.sf_forms.proofs.Lone.{ok_then}
use Rattle.sf_forms.proofs.heads.push_tagged.Goals as goal

pub returns-in-Some-clause-pushed : goal.returns-in-Some-clause-pushed
returns-in-Some-clause-pushed g c =
    let form = c.args.form in
    let old : List ℕ = c.args.output.now.items in
    ok_then c.push_framed.result c.push_framed.ensures.pushed (λ e. e
    ∙ ap (λ (ts : List (List ℕ)). old ++ framed form ts)
    (tagged_columns c.in-Some.number (slot_text form c.args.report.now) c.args.destinations)
    ∙ ap (λ (tag : Option ℕ). old ++ framed form (columns form tag c.args.destinations c.args.report.now)) (sym c.in-Some.is))
