use Rattle.std.proofs.Common.{◌≡◌, ◌++◌, Some, [], ap, refl, ◌∙◌}
use Rattle.sf_records.specs.by_lines.Turns.{work_of}
use Rattle.sf_forms.specs.makers.Forms.{writing_under}
use Rattle.sf_records_tests.specs.Silence.{no_note}
use Rattle.sf_records_tests.proofs.WrittenLemmas.{are_bytes, arrays_read}
use Rattle.sf_records_tests.proofs.reading_back.write_lines.Goals as goal

pub returns : goal.returns
returns c =
    let text = c.args.text.now in
    let formats = c.args.formats.now in
    let h = c.headed-maker.result in
    let input : Some (c.new-from.result.held ++ c.new-from.result.source.to_come) ≡ Some text =
    ap (λ k. Some (k ++ c.new-from.result.source.to_come)) c.new-from.ensures.held
    ∙ ap (λ s. Some s.to_come) (c.new-from.ensures.source ∙ c.new.ensures) in
    let loop = c.run_lines-end.ensures.loops no_note text refl input in
    let back = c.lines_read_back.ensures h c.args.options [] formats no_note c.see_formats-count.ensures.accepted
    c.see_formats-count.ensures.few text
    (are_bytes text c.type_inv.text) _ _ _ _ _ _ _ _ _ loop in
    let all = arrays_read h c.headed-maker.ensures (work_of c.args.options [] formats (writing_under h) no_note) text c.new-to.result.bytes
    c.run_lines-end.new.to.bytes (ap (λ s. s.bytes) c.new-to.ensures) c.run_lines-end.result loop back in
    (all.rows, all.records, all.part, all.text, all.whole, all.count, all.read)
