use Rattle.std.proofs.Common.{Err, sym, ◌∙◌, ap, arith}
use Rattle.std.proofs.lemmas.Result.{err_from_is_err_and}
use Rattle.sf_format.specs.Language.{Scan}
use Rattle.sf_format.specs.Reading.{judged}
use Rattle.sf_format.proofs.Meanings.{scan_meaning}
use Rattle.sf_format.proofs.Walks.{bytes_of}
use Rattle.sf_format.proofs.Judgements.{format_judged, judged_short, judged_fault, hindered, told, no_fault}
use Rattle.sf_format.proofs.SpanTexts.{hindered_only, spanned}
use Rattle.sf_format.proofs.spans.Spans.of.Goals as goal

pub returns-in_err-_count-clause-spelled : goal.returns-in_err-_count-clause-spelled
returns-in_err-_count-clause-spelled c = λ pieces is e.
    let f = sym c.in_err-_count.ensures.fault ∙ ap (judged (Scan c.args.profile)) e ∙ format_judged (Scan c.args.profile) pieces is in
    absurd (cc)

pub returns-in_err-_count-clause-refused : goal.returns-in_err-_count-clause-refused
returns-in_err-_count-clause-refused c =
    let p = err_from_is_err_and c.from_residual.result c.from_residual.ensures.1 in
    rw (p.1, p.2)
    (judged_fault (scan_meaning c.args.profile) c.args.text.now c.in_err-_count.field-0.0
    (bytes_of c.args.text.now (λ i. omega (arith, c.type_inv.text i))) c.in_err-_count.ensures.fault)

pub returns-in_err-_count-clause-fault : goal.returns-in_err-_count-clause-fault
returns-in_err-_count-clause-fault c = λ at why fault.
    let p = err_from_is_err_and c.from_residual.result c.from_residual.ensures.1 in
    let refused =
    judged_fault (scan_meaning c.args.profile) c.args.text.now c.in_err-_count.field-0.0
    (bytes_of c.args.text.now (λ i. omega (arith, c.type_inv.text i))) c.in_err-_count.ensures.fault in
    rw (p.1, p.2) (ap Err ((told (scan_meaning c.args.profile) c.args.text.now c.in_err-_count.field-0.0 refused).0 at why fault))

pub gather_spans-requires : goal.gather_spans-requires
gather_spans-requires c = judged_short (Scan c.args.profile) c.args.text.now c.in_ok-_count.ensures.judged.0 c.in_ok-_count.ensures.judged.1

pub returns-in_err-spans-clause-spelled : goal.returns-in_err-spans-clause-spelled
returns-in_err-spans-clause-spelled c = λ pieces is e.
    let p = err_from_is_err_and c.from_residual-in_err-spans.result c.from_residual-in_err-spans.ensures.1 in
    rw (p.1, p.2) (hindered_only c.args.text.now pieces c.in_err-spans.field-0.0 is e c.in_err-spans.ensures.hindered)

pub returns-in_err-spans-clause-refused : goal.returns-in_err-spans-clause-refused
returns-in_err-spans-clause-refused c =
    let p = err_from_is_err_and c.from_residual-in_err-spans.result c.from_residual-in_err-spans.ensures.1 in
    rw (p.1, p.2)
    (hindered (scan_meaning c.args.profile) c.args.text.now c.in_ok-_count._count c.in_err-spans.field-0.0
    (bytes_of c.args.text.now (λ i. omega (arith, c.type_inv.text i))) c.in_ok-_count.ensures.judged c.in_err-spans.ensures.hindered)

pub returns-in_err-spans-clause-fault : goal.returns-in_err-spans-clause-fault
returns-in_err-spans-clause-fault c = λ at why fault.
    no_fault (Scan c.args.profile) c.args.text.now c.in_ok-_count._count at why c.in_ok-_count.ensures.judged fault

pub returns-clause-spelled : goal.returns-clause-spelled
returns-clause-spelled c = λ pieces is e. spanned c.args.text.now pieces c.in_ok-spans.spans.items is e c.in_ok-spans.ensures.gathered

pub returns-clause-fault : goal.returns-clause-fault
returns-clause-fault c = λ at why fault.
    no_fault (Scan c.args.profile) c.args.text.now c.in_ok-_count._count at why c.in_ok-_count.ensures.judged fault
