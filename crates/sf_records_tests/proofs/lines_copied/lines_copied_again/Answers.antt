use Rattle.std.proofs.Common.{◌≡◌, List, ℕ, ap, subst, sym, ◌∙◌, arith, lit<}
use Rattle.sf_format.specs.Proper.{AreProper}
use Rattle.sf_read.specs.line.Cut.{lines_of}
use Rattle.sf_records.specs.by_lines.Copied.{copying_lines}
use Rattle.sf_records.specs.by_lines.Loops.{AreTurns, texts}
use Rattle.sf_records.specs.by_lines.Turns.{AreScanned, Turn}
use Rattle.sf_records_tests.specs.Silence.{no_note}
use Rattle.sf_records_tests.proofs.CopyLemmas.{is_pair}
use Rattle.sf_records_tests.proofs.LinesLemmas.{same_turns}
use Rattle.sf_records_tests.proofs.lines_copied.lines_copied_again.Goals as goal

pub returns : goal.returns
returns c = λ members ends turns are each first second.
    let us = c.args.pair.now.print in
    let ds = c.args.pair.now.scan in
    let front = c.args.front.now in
    let w = copying_lines c.args.options us ds front no_note in
    let scanned : AreScanned w = record {
      ignored = tt;
      proper = (subst AreProper c.directives-directives.ensures.value c.directives-directives.ensures.proper, tt);
      some = lit< tt;
    } in
    let one = c.lines_in-first.ensures first in
    let other = c.lines_in-second.ensures second in
    let pair = is_pair c.aligned_is_accepted.ensures us ds c.print-print.ensures.checked in
    let again = c.lines_copied_twice.ensures us ds front members pair ends c.args.options c.requires.skip no_note 0
    (lines_of c.args.text.now) turns are each in
    let same = same_turns c.lines_have_one_turn.ensures w scanned (lines_of c.args.text.now) one.0 turns one.1 are in
    let bytes : c.lines_in-first.result.text.bytes ≡ texts turns = one.2 ∙ ap (λ (ts : List Turn). texts ts) same in
    let lines = subst (λ (t : List ℕ). AreTurns w 0 (lines_of t) again.again) (sym (c.bytes.ensures ∙ bytes)) again.are in
    let later = same_turns c.lines_have_one_turn.ensures w scanned (lines_of c.bytes.result.now) other.0 again.again other.1
    lines in
    other.2 ∙ ap (λ (ts : List Turn). texts ts) later ∙ again.same ∙ sym bytes
