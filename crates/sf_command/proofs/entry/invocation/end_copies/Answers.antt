use Rattle.std.proofs.Common.{Err, map, rules, string_bytes, subst}
use Rattle.sf_command.specs.jobs.Commands.{grammar_of}
use Rattle.sf_command.specs.entry.Exits.{EndsRefused}
use Rattle.sf_command.specs.console.Ends.{EndsKnown}
use Rattle.sf_command.specs.console.Fronts.{file_name}
use Rattle.sf_command.proofs.LineJobLemmas.Copying.{copies_by, copies_line, copies_none, more_of_no_copies}
use Rattle.sf_command.proofs.entry.invocation.end_copies.Goals as goal

pub copy_by_formats-answer-requires : goal.copy_by_formats-answer-requires
copy_by_formats-answer-requires g c =
    let order = c.args.order.now in
    let line = copies_line (grammar_of order.profile) (map string_bytes order.texts.items) c.in-Ok.formats c.in-Ok.ensures.ok in
    (search rules, (c.requires.limit, line))

pub returns-in-Ok : goal.returns-in-Ok
returns-in-Ok g c =
    let order = c.args.order.now in
    let answer = c.copy_by_formats-answer.result in
    let mid = c.copy_by_formats-answer.new.out in
    let between = c.copy_by_formats-answer.new.err in
    let notes = c.notes_of_copies-notes.result.items in
    let by_source = subst (λ (s : _). EndsKnown g.C.Console.Hands g.C.Console.said g.C.Console.unsaid c.args.watched c.args.explain
    (g.R.Reasons.why_unread s) (g.C.Console.why mid) order c.deref.result.now answer mid c.end_known.new.out between
    c.end_known.new.err c.end_known.result) c.source-source.ensures c.end_known.ensures in
    let ends = subst (λ told. EndsKnown g.C.Console.Hands g.C.Console.said g.C.Console.unsaid c.args.watched c.args.explain
    (g.R.Reasons.why_unread c.copy_by_formats-answer.new.from.source) (g.C.Console.why mid) order told answer mid
    c.end_known.new.out between c.end_known.new.err c.end_known.result) c.deref.ensures.value by_source in
    let copied = copies_by g.S.Source.to_come g.S.Source.failures g.K.Sink.contents g.K.Sink.failures g.C.Console.said
    g.C.Console.unsaid (file_name order) (grammar_of order.profile) c.args.options c.args.explain order.limit
    (map string_bytes order.texts.items) c.in-Ok.formats c.in-Ok.ensures.ok c.args.from.now c.copy_by_formats-answer.new.from
    c.args.out.now mid c.args.err.now between answer c.copy_by_formats-answer.ensures.copies in
    (answer, (mid, (between, copied, (notes, c.notes_of_copies-notes.ensures, ends))))

pub returns-in-Err : goal.returns-in-Err
returns-in-Err g c =
    let order = c.args.order.now in
    let fault = c.in-Err.refused.fault in
    let word = c.in-Err.refused.word.now in
    let none = c.in-Err.ensures.err in
    let ended = subst (λ (s : _). EndsRefused g.C.Console.Hands g.C.Console.said g.C.Console.unsaid c.args.watched c.args.explain
    (g.R.Reasons.why_unread s) (g.C.Console.why c.args.out.now) order word fault c.args.out.now c.end_refused.new.out
    c.args.err.now c.end_refused.new.err c.end_refused.result) c.source.ensures c.end_refused.ensures in
    let (notes, says, ends) = ended in
    let copied = copies_none g.S.Source.to_come g.S.Source.failures g.K.Sink.contents g.K.Sink.failures g.C.Console.said
    g.C.Console.unsaid (file_name order) (grammar_of order.profile) c.args.options c.args.explain order.limit
    (map string_bytes order.texts.items) word fault none c.args.from.now c.args.out.now c.args.err.now in (
      Err fault,
      (
        c.args.out.now,
        (
          c.args.err.now,
          copied,
          (notes, more_of_no_copies c.args.explain order c.requires.copy notes word fault none says, ends),
        ),
      ),
    )
