use Rattle.std.proofs.Common.{◌++◌, Err, inl, inr, map, refl, string_bytes, subst}
use Rattle.std.specs.Prelude.{option_map}
use Rattle.sf_command.specs.jobs.Commands.{form_of, grammar_of}
use Rattle.sf_command.specs.entry.Exits.{EndsRefused}
use Rattle.sf_command.specs.console.Ends.{EndsKnown}
use Rattle.sf_command.specs.jobs.LinesJobs.{IsRefused}
use Rattle.sf_command.proofs.LineJobLemmas.Lining.{more_of_refused_lines}
use Rattle.sf_command.proofs.entry.invocation.end_scans.Goals as goal

-- the words are refused
pub returns-in-Err : goal.returns-in-Err
returns-in-Err g c =
    let order = c.args.order.now in
    let fault = c.in-Err.refused.fault in
    let word = c.in-Err.refused.word.now in
    let print = option_map string_bytes order.print in
    let passed = map string_bytes order.ignored.items in
    let words = map string_bytes order.texts.items in
    let by_form = subst (λ form. IsRefused order.strict c.grammar_of-profile.result form print passed words word fault) c.form_of.ensures
    c.in-Err.ensures.err in
    let refused = subst (λ profile. IsRefused order.strict profile (form_of order.output) print passed words word fault)
    c.grammar_of-profile.ensures
    by_form in
    let ended = subst (λ (s : _). EndsRefused g.C.Console.Hands g.C.Console.said g.C.Console.unsaid c.args.watched c.args.explain
    (g.R.Reasons.why_unread s) (g.C.Console.why c.args.out.now) order word fault c.args.out.now c.end_refused.new.out c.args.err.now
    c.end_refused.new.err c.end_refused.result) c.source.ensures c.end_refused.ensures in
    let (notes, says, ends) = ended in (
      Err fault,
      (
        c.args.out.now,
        (
          c.args.err.now,
          inl ((fault, refl, (word, refused)), refl, refl, refl),
          (
            notes,
            more_of_refused_lines order.strict (grammar_of order.profile) (form_of order.output) print passed words c.args.explain word
                notes fault
                refused says,
            (notes, inr refl, ends),
          ),
        ),
      ),
    )

-- the lines are scanned, and what is said after the line of the answer is said of it
pub returns-in-Ok : goal.returns-in-Ok
returns-in-Ok g c =
    let order = c.args.order.now in
    let answer = c.scan_lines-answer.result in
    let notes = c.notes_of_lines-notes.result.items in
    let all = c.with_passed_hint-all.result.items in
    let print = option_map string_bytes order.print in
    let words = map string_bytes order.ignored.items ++ map string_bytes order.texts.items in
    let by_source = subst (λ (s : _). EndsKnown g.C.Console.Hands g.C.Console.said g.C.Console.unsaid c.args.watched c.args.explain
    (g.R.Reasons.why_unread s) (g.C.Console.why c.scan_lines-answer.new.out) order c.deref.result.now answer
    c.scan_lines-answer.new.out c.end_known.new.out c.scan_lines-answer.new.err c.end_known.new.err c.end_known.result)
    c.source-source.ensures c.end_known.ensures in
    let ends = subst (λ told. EndsKnown g.C.Console.Hands g.C.Console.said g.C.Console.unsaid c.args.watched c.args.explain
    (g.R.Reasons.why_unread c.scan_lines-answer.new.from.source) (g.C.Console.why c.scan_lines-answer.new.out) order told answer
    c.scan_lines-answer.new.out c.end_known.new.out c.scan_lines-answer.new.err c.end_known.new.err c.end_known.result)
    c.deref.ensures.value by_source in (
      answer,
      (
        c.scan_lines-answer.new.out,
        (
          c.scan_lines-answer.new.err,
          c.scan_lines-answer.ensures,
          (
            notes,
            c.notes_of_lines-notes.ensures (grammar_of order.profile) print words,
            (all, c.with_passed_hint-all.ensures, ends),
          ),
        ),
      ),
    )
