use Rattle.std.proofs.Common.{sym, ◌∙◌, ap}
use Rattle.sf_format.specs.Language.{Scan}
use Rattle.sf_format.specs.Reading.{judged}
use Rattle.sf_format.proofs.WholeTexts.{format_read}
use Rattle.sf_format.proofs.Judgements.{format_judged, judged_short, no_fault}
use Rattle.sf_format.proofs.part_text.directive_text.Goals as goal

pub returns-in_default-clause-text : goal.returns-in_default-clause-text
returns-in_default-clause-text c = λ pieces is e.
    let f = sym c.in_default.ensures.fault ∙ ap (judged (Scan c.args.profile)) e ∙ format_judged (Scan c.args.profile) pieces is in
    absurd (cc)

pub part_text-requires : goal.part_text-requires
part_text-requires c = judged_short (Scan c.args.profile) c.args.text.now c.in-Ok.ensures.judged.0 c.in-Ok.ensures.judged.1

pub returns-clause-text : goal.returns-clause-text
returns-clause-text c = λ pieces is e.
    c.part_text.ensures pieces (rw e (format_read (Scan c.args.profile) pieces is))

pub returns-clause-refused : goal.returns-clause-refused
returns-clause-refused c = λ at why fault. no_fault (Scan c.args.profile) c.args.text.now _ at why c.in-Ok.ensures.judged fault
