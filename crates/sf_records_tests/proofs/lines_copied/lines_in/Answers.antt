use Rattle.std.proofs.Common.{◌≡◌, ◌++◌, false, List, [], Some, ap, refl, subst, ◌∙◌}
use Rattle.sf_records.specs.Copies.{copying}
use Rattle.sf_records.specs.by_lines.Copied.{copying_lines}
use Rattle.sf_records.specs.by_lines.Loops.{Loops}
use Rattle.sf_records.specs.by_lines.Turns.{LineWork, work_of}
use Rattle.sf_records_tests.specs.Silence.{no_note}
use Rattle.sf_records_tests.proofs.LinesLemmas.{ended_lines}
use Rattle.sf_records_tests.proofs.lines_copied.lines_in.Goals as goal

pub returns : goal.returns
returns c = λ none.
    let text = c.args.text.now in
    let pair = c.args.pair.now in
    let input : Some (c.new-from.result.held ++ c.new-from.result.source.to_come) ≡ Some text =
    ap (λ k. Some (k ++ c.new-from.result.source.to_come)) c.new-from.ensures.held
    ∙ ap (λ s. Some s.to_come) (c.new-from.ensures.source ∙ c.new.ensures) in
    let loop = c.run_lines-end.ensures.loops no_note text refl input in
    let same : work_of c.args.options [] c.from_ref.result.now
    (λ number ds. copying c.new-maker.result.print c.new-maker.result.scan) no_note
    ≡ copying_lines c.args.options pair.print pair.scan c.args.front.now no_note =
    λ i. work_of c.args.options [] (c.from_ref.ensures.value i)
    (λ number ds. copying (c.new-maker.ensures i).print (c.new-maker.ensures i).scan) no_note in
    ended_lines (copying_lines c.args.options pair.print pair.scan c.args.front.now no_note) text c.new-to.result.bytes
    c.run_lines-end.new.to.bytes (ap (λ s. s.bytes) c.new-to.ensures) c.run_lines-end.result
    (subst (λ (v : LineWork). Loops v (λ s. Some s.to_come) text c.run_lines-end.new.from 0 0 (Some c.new-to.result.bytes)
    (Some c.run_lines-end.new.to.bytes) false (Some []) (Some []) c.run_lines-end.result) same loop) none
