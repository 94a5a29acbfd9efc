use Rattle.std.proofs.Common.{ℕ, List, [], ◌∷◌, Some, ap, length, map, subst, sym, ◌∙◌}
use Rattle.std.specs.List.{AllByRecursion}
use Rattle.sf_base.specs.Bytes.{AreBytes}
use Rattle.sf_format.specs.Proper.{destinations_of}
use Rattle.sf_forms.specs.ReadingBack.{text_of_value}
use Rattle.sf_run.specs.Limits.{RunTold}
use Rattle.sf_run.specs.Runs.{RunReport}
use Rattle.sf_run.specs.outcome.Ending.TheVariants.{End}
use Rattle.sf_records_tests.proofs.NamedLemmas.{mapped, titled}
use Rattle.sf_records_tests.proofs.WrittenLemmas.{are_bytes, parts_bytes}
use Rattle.sf_records_tests.proofs.named.show_titled.Goals as goal

pub returns : goal.returns
returns c = λ none.
    let ds = c.args.format.now in
    let text = c.args.text.now in
    let r = c.report-report.result in
    let bytes = are_bytes text c.type_inv.text in
    let names = c.in-Ok.columns in
    let name_bytes : AllByRecursion AreBytes names =
    parts_bytes 44 names (subst AreBytes (sym c.in-Ok.ensures.joined) (are_bytes c.args.names.now c.type_inv.names)) in
    let told = subst (λ (report : RunReport). RunTold ds 1048576 text End report) (sym c.report-report.ensures)
    c.in-Ok-sscan.ensures.report in
    let done = sym c.outcome.ensures.status ∙ c.in-Done.is in
    let has = c.done_runs_have_rows.ensures.row ds c.destinations-destinations.ensures.accepted none 1048576 text End r bytes told done in
    mapped c.record_under.result (λ to is. (
      has.row,
      titled c.headed_records_are_rows.ensures names name_bytes (length (destinations_of ds)) r has.row has.is_row has.are_values
          c.names_read_back.ensures.rows to.bytes is
          ∙ ap (λ (ns : List (List ℕ)). Some (ns ∷ map text_of_value has.row ∷ [])) c.in-Ok.ensures.split,
    )) c.record_under.ensures
