use Rattle.std.proofs.Common.{◌≡◌, IfSome, length, take, ap, sym, subst, ◌∙◌, arith}
use Rattle.std.proofs.lemmas.List.{length-take-le}
use Rattle.std.specs.List.{flat_map}
use Rattle.sf_forms.specs.declared.form.OutputForm.{OutputForm}
use Rattle.sf_forms.specs.Forms.{framed}
use Rattle.sf_forms.specs.InPlace.{parted}
use Rattle.sf_records.proofs.InPlaceTexts.{some_texts, texts_in, texts_parted}
use Rattle.sf_records.proofs.in_place.FormValuesValueWriter.end_record.Goals as goal

pub returns-clause-ended : goal.returns-clause-ended
returns-clause-ended g c values is =
    let form = g.F.TypedForm.form in
    let same : c.form.result ≡ form = c.form.ensures in
    let texts = texts_in form values in
    subst (λ (f : OutputForm). IfSome c.end_values.result (λ to. take to c.end_values.new.buf ≡ framed f texts)) same
    (c.end_values.ensures.ended texts
    (is ∙ texts_parted form values ∙ ap (λ (f : OutputForm). flat_map (parted f) texts) (sym same)))

pub returns-clause-answers : goal.returns-clause-answers
returns-clause-answers g c values some is room =
    let form = g.F.TypedForm.form in
    let texts = texts_in form values in
    c.end_values.ensures.answers texts (some_texts form values some)
    (is ∙ texts_parted form values ∙ ap (λ (f : OutputForm). flat_map (parted f) texts) (sym c.form.ensures))
    (omega (arith, room, ap length is, length-take-le c.args.end c.args.room.now c.requires))
