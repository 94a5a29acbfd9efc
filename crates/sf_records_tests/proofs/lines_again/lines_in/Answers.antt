use Rattle.std.proofs.Common.{◌≡◌, ◌++◌, Some, ap, refl, ◌∙◌}
use Rattle.sf_records_tests.specs.Silence.{no_note}
use Rattle.sf_records_tests.proofs.LinesLemmas.{ended_by}
use Rattle.sf_records_tests.proofs.lines_again.lines_in.Goals as goal

pub returns : goal.returns
returns c =
    let text = c.args.text.now in
    let input : Some (c.new-from.result.held ++ c.new-from.result.source.to_come) ≡ Some text =
    ap (λ k. Some (k ++ c.new-from.result.source.to_come)) c.new-from.ensures.held
    ∙ ap (λ s. Some s.to_come) (c.new-from.ensures.source ∙ c.new.ensures) in
    let loop = c.run_lines-end.ensures.loops no_note text refl input in
    ended_by c.new-maker.result c.new-maker.ensures c.args.options c.args.formats.now text c.new-to.result.bytes
    c.run_lines-end.new.to.bytes (ap (λ s. s.bytes) c.new-to.ensures) c.run_lines-end.result loop
