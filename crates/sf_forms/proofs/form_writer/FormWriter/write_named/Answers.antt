use Rattle.std.proofs.Common.{◌≡◌, ◌⊎◌, ◌∙◌, List, Option, ℕ, subst, sym}
use Rattle.std.specs.Prelude.{is_some}
use Rattle.sf_forms.specs.declared.form.OutputForm.{OutputForm}
use Rattle.sf_forms.specs.declared.form.OutputForm.TheVariants.{Plain, Tsv, Csv}
use Rattle.sf_forms.specs.Heads.{column_names, columns}
use Rattle.sf_forms.specs.Written.{WritesText}
use Rattle.sf_forms.proofs.Heading.{appended_to_none, in_json, in_others}
use Rattle.sf_forms.proofs.form_writer.FormWriter.write_named.Goals as goal

pub returns-in-Plain : goal.returns-in-Plain
returns-in-Plain g c =
    let form : OutputForm = c.args.self.now in
    let others : (form ≡ Plain) ⊎ ((form ≡ Tsv) ⊎ (form ≡ Csv)) =
    subst (λ (f : OutputForm). (f ≡ Plain) ⊎ ((f ≡ Tsv) ⊎ (f ≡ Csv))) c.self.view_is c.in-Plain.is in
    record {
      same = c.write_columns.ensures.same;
      written = subst (λ (text : List ℕ). WritesText text (g.K.Sink.contents c.args.to.now) (g.K.Sink.contents c.write_columns.new.to)
          c.write_columns.result) (in_others form (column_names (is_some c.args.tag) c.args.names.now)
          (columns form c.args.tag c.args.destinations c.args.report.now) others) c.write_columns.ensures.written;
      failures = c.write_columns.ensures.failures;
    }

pub returns-clause-written : goal.returns-clause-written
returns-clause-written g c =
    let text : List ℕ = c.deref.result.now in
    let sent : WritesText text (g.K.Sink.contents c.args.to.now) (g.K.Sink.contents c.send.new.to) c.send.result =
    subst (λ (old : Option (List ℕ)). WritesText text old (g.K.Sink.contents c.send.new.to) c.send.result)
    (c.take_in_place.ensures.refused (sym c.if-is_some.ensures)) c.send.ensures.written in
    subst (λ (t : List ℕ). WritesText t (g.K.Sink.contents c.args.to.now) (g.K.Sink.contents c.send.new.to) c.send.result)
    (appended_to_none c.push_object.result _ _ _ _ text c.push_object.ensures.pushed c.is_err.ensures.value
    c.if-is_err.false c.clear.ensures.items c.deref.ensures.value
    ∙ in_json c.args.self.now (column_names (is_some c.args.tag) c.args.names.now) c.args.tag c.args.destinations
    c.args.report.now (sym c.self.view_is ∙ c.in-Json.is)) sent
