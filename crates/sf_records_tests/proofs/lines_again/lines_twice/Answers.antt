use Rattle.std.proofs.Common.{[], List, ap, sym, ◌∙◌, None}
use Rattle.sf_forms.specs.Heads.{bare}
use Rattle.sf_forms.specs.declared.form.OutputForm.TheVariants.{Json}
use Rattle.sf_forms.specs.makers.Forms.{writing_under}
use Rattle.sf_read.specs.line.Cut.{lines_of}
use Rattle.sf_records.specs.by_lines.Loops.{ended, texts}
use Rattle.sf_records.specs.by_lines.Turns.{AreScanned, Turn, work_of}
use Rattle.sf_records_tests.specs.Silence.{no_note}
use Rattle.sf_records_tests.proofs.LinesLemmas.{all_proper, same_turns}
use Rattle.sf_records_tests.proofs.lines_again.lines_twice.Goals as goal

pub returns : goal.returns
returns c = λ first second.
    let formats = c.args.formats.now in
    let w = work_of c.args.options [] formats (writing_under (bare Json)) no_note in
    let one = c.lines_in-first.ensures first in
    let other = c.lines_in-second.ensures second in
    let scanned : AreScanned w = record {
      ignored = tt;
      proper = all_proper formats c.see_formats-count.ensures.accepted;
      some = c.requires.some;
    } in
    let same = same_turns c.lines_have_one_turn.ensures w scanned (lines_of c.args.text.now) one.0 other.0 one.1 other.1 in (
      one.2 ∙ ap (λ (ts : List Turn). texts ts) same ∙ sym other.2,
      one.3 ∙ ap (λ (ts : List Turn). ended ts None) same ∙ sym other.3,
    )
