use Rattle.std.proofs.Common.{◌+◌, ◌-◌, suc, ap, arith, length, refl, string_bytes, subst}
use Rattle.sf_words.specs.declared.order.Order.{Order}
use Rattle.sf_command.specs.entry.Files.{RunsFile}
use Rattle.sf_command.proofs.EntryLemmas.Filing.{has_name, same_next, then_next, then_none}
use Rattle.sf_command.proofs.entry.files.run_files.Goals as goal

pub run_file-turn-requires-clause-named : goal.run_file-turn-requires-clause-named
run_file-turn-requires-clause-named g c =
    let same = ap (λ (o : Order). length o.files.items) c.loop-place.invariant.same in
    has_name string_bytes c.loop-place.order.files.items c.loop-place.place
    (omega (arith, same, c.len-place-end.ensures, c.loop-place-test.true))

pub returns-then-not-turn : goal.returns-then-not-turn
returns-then-not-turn g c =
    let order = c.args.order.now in
    let place = c.loop-place.place in
    let left = length order.files.items - (place + 1) in
    let ran = subst (λ o. RunsFile g.F.Opener.Opens g.K.Sink.contents g.K.Sink.failures g.C.Console.Hands g.C.Console.said
    g.C.Console.unsaid g.S.Source.to_come g.S.Source.failures g.C.Reasons.why_unread g.C.Console.why c.args.watched o c.loop-place.files
    c.run_file-turn.new.files c.loop-place.out
    c.run_file-turn.new.out c.loop-place.err c.run_file-turn.new.err c.run_file-turn.result)
    (same_next c.loop-place.order order place c.loop-place.invariant.same) c.run_file-turn.ensures in
    c.loop-place.invariant.goes (suc left) _ _ _ _ (omega (arith, c.len-place-end.ensures, c.loop-place-test.true))
    (then_none g.F.Opener.Opens g.K.Sink.contents g.K.Sink.failures g.C.Console.Hands g.C.Console.said g.C.Console.unsaid
    g.S.Source.to_come g.S.Source.failures g.C.Reasons.why_unread g.C.Console.why c.args.watched left order place c.loop-place.worst
    c.run_file-turn.result c.loop-place.files
    c.run_file-turn.new.files c.loop-place.out c.run_file-turn.new.out c.loop-place.err c.run_file-turn.new.err c.greater-worst.result ran
    c.if-not-turn.true c.greater-worst.ensures)

pub loop-place-preserved : goal.loop-place-preserved
loop-place-preserved g c =
    let order = c.args.order.now in
    let place = c.loop-place.place in
    let next = same_next c.loop-place.order order place c.loop-place.invariant.same in
    let ran = subst (λ o. RunsFile g.F.Opener.Opens g.K.Sink.contents g.K.Sink.failures g.C.Console.Hands g.C.Console.said
    g.C.Console.unsaid g.S.Source.to_come g.S.Source.failures g.C.Reasons.why_unread g.C.Console.why c.args.watched o c.loop-place.files
    c.run_file-turn.new.files c.loop-place.out
    c.run_file-turn.new.out c.loop-place.err c.run_file-turn.new.err c.run_file-turn.result) next c.run_file-turn.ensures in
    record {
      same = next;
      goes = λ left files' out' err' status is runs. c.loop-place.invariant.goes (suc left) files' out' err' status (omega (arith, is))
          (then_next g.F.Opener.Opens g.K.Sink.contents g.K.Sink.failures g.C.Console.Hands g.C.Console.said g.C.Console.unsaid
          g.S.Source.to_come g.S.Source.failures g.C.Reasons.why_unread g.C.Console.why c.args.watched left order place
          c.loop-place.worst c.run_file-turn.result
          c.loop-place.files c.run_file-turn.new.files files' c.loop-place.out c.run_file-turn.new.out out' c.loop-place.err
          c.run_file-turn.new.err err' c.greater-worst.result status ran c.if-not-turn.false c.greater-worst.ensures runs);
    }

pub returns : goal.returns
returns g c = c.loop-place.invariant.goes 0 _ _ _ _ (omega (arith, c.len-place-end.ensures, c.loop-place-test.false))
    (refl, refl, refl, refl)
