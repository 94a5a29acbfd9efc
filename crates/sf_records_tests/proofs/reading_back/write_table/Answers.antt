use Rattle.std.proofs.Common.{◌≡◌, ℕ, ◌++◌, List, Some, length, subst, ap, ◌∙◌, Option}
use Rattle.std.specs.Io.KnownBytes.{Appends}
use Rattle.std.specs.List.{flat_map}
use Rattle.sf_base.specs.Data.{Datum}
use Rattle.sf_forms.specs.Forms.{given_row_text}
use Rattle.sf_records.specs.form.OutputForm.TheVariants.{Tsv}
use Rattle.sf_records_tests.proofs.WrittenLemmas.{are_bytes, same_rows}
use Rattle.sf_records_tests.proofs.reading_back.write_table.Goals as goal

pub returns : goal.returns
returns g c =
    let input : Some (c.new-from.result.held ++ c.new-from.result.source.to_come) ≡ Some c.args.text.now =
    ap (λ h. Some (h ++ c.new-from.result.source.to_come)) c.new-from.ensures.held
    ∙ ap (λ s. Some s.to_come) (c.new-from.ensures.source ∙ c.new.ensures) in
    let loop = c.run_scan_as.ensures.loops c.args.text.now input in
    let back = c.written_reads_back.ensures Tsv c.args.format.now c.destinations-destinations.ensures.accepted 2000000000
    c.args.text.now (are_bytes c.args.text.now c.type_inv.text) _ _ _ _ _ _ loop in
    let same : back.columns ≡ back.rows = back.columns_are ∙ same_rows back.rows in
    let before = g.K.Sink.contents c.args.to.now in
    let after = g.K.Sink.contents c.run_scan_as.new.to in
    record {
      texts = (
        back.columns,
        back.part,
        subst (Appends before after) back.text_is loop.appends,
        back.whole,
        back.reads,
        ap (λ (rows : List (List (Option Datum))). length rows) same ∙ back.count,
      );
      reads = λ none.
          let typed = back.typed none in
          let text = ap (λ (rows : List (List (Option Datum))). flat_map (given_row_text Tsv) rows) same ∙ typed.texts Tsv in (
            typed.given,
            back.part,
            subst (Appends before after) (back.text_is ∙ ap (λ (t : List ℕ). t ++ back.part) text) loop.appends,
            back.whole,
            typed.table,
          );
    }
