use Rattle.std.proofs.Common.{◌≡◌, ◌∙◌, ◌++◌, ℕ, List, None, Some, Ok, Err, true, ap, map, refl, rules, string_bytes, subst, sym}
use Rattle.std.specs.Prelude.{IfSome}
use Rattle.sf_messages.specs.places.Behind.{IsBehind}
use Rattle.sf_read.specs.source.Ahead.{Ahead}
use Rattle.sf_command.specs.jobs.Commands.{form_of, grammar_of, reading_of}
use Rattle.sf_command.proofs.JobLemmas.Working.{none_does}
use Rattle.sf_command.specs.entry.Exits.{Does, DoesOrder, is_explained, unread_of}
use Rattle.sf_command.specs.console.Ends.{EndsKnown}
use Rattle.sf_command.specs.notes.Explains.{SaysMore}
use Rattle.sf_command.proofs.EntryLemmas.Carrying.{carries, over, over_fresh}
use Rattle.sf_command.proofs.NoteLemmas.Explaining.{more_of_none}
use Rattle.sf_command.proofs.EntryLemmas.Placing.{placed_on}
use Rattle.sf_command.proofs.entry.invocation.run_placed.Goals as goal

-- a word is refused
pub returns-in-Err-clause-does : goal.returns-in-Err-clause-does
returns-in-Err-clause-does g c =
    let order = c.args.order.now in
    let watched = c.args.watched in
    let fault = c.in-Err.refused.fault in
    let word = c.in-Err.refused.word.now in
    let none = c.in-Err.ensures.err in
    let to_come = g.R.Source.to_come in
    let faults = g.R.Source.failures in
    let taken = g.K.Sink.contents in
    let unwritten = g.K.Sink.failures in
    let hands = g.C.Console.Hands in
    let said = g.C.Console.said in
    let unsaid = g.C.Console.unsaid in
    let unread = g.Q.Reasons.why_unread in
    let why = g.C.Console.why in
    let out = c.args.out.now in
    let out' = c.end_refused-answer.new.out in
    let err = c.args.err.now in
    let err' = c.end_refused-answer.new.err in
    let ended = c.end_refused-answer.result in
    let from = unread_of c.args.from in
    let (notes, says, ends) = c.end_refused-answer.ensures in
    let does = none_does to_come faults taken unwritten (grammar_of order.profile) (form_of order.output) (reading_of order.raw) order
    order.verb (map string_bytes order.texts.items) word fault none from out in
    let done : DoesOrder taken unwritten hands said unsaid to_come faults unread why watched (is_explained watched order.notes)
    order.lines order None from from out out' err err' ended =
    subst (λ e. DoesOrder taken unwritten hands said unsaid to_come faults unread why watched e order.lines order None from from out out'
    err err' ended) (sym c.requires.explained)
    (subst (λ lines. DoesOrder taken unwritten hands said unsaid to_come faults unread why watched true lines order None from from out
    out' err err' ended) (sym c.requires.records)
    (Err fault, (out, does, (notes, more_of_none true order None from.held notes word fault none says, ends)))) in
    record { left = from; place = None; done = done; placed = tt; back = refl; few = search rules }

-- the job is done
pub returns-clause-does : goal.returns-clause-does
returns-clause-does g c =
    let order = c.args.order.now in
    let watched = c.args.watched in
    let explain = is_explained watched order.notes in
    let before = c.new-ahead.result in
    let after = c.run-answer.new.from in
    let answer = c.run-answer.result in
    let place = c.place_before-place.result in
    let notes = c.notes_of_job-notes.result.items in
    let to_come = g.R.Source.to_come in
    let faults = g.R.Source.failures in
    let taken = g.K.Sink.contents in
    let unwritten = g.K.Sink.failures in
    let hands = g.C.Console.Hands in
    let said = g.C.Console.said in
    let unsaid = g.C.Console.unsaid in
    let out = c.args.out.now in
    let mid = c.run-answer.new.out in
    let out' = c.end_known-answer.new.out in
    let err = c.args.err.now in
    let err' = c.end_known-answer.new.err in
    let ended = c.end_known-answer.result in
    let input = g.B.Input.input in
    let unread = g.Q.Reasons.why_unread in
    let unwritten_why = g.C.Console.why in
    let fresh : over (λ a. a.source.source) before ≡ unread_of c.args.from =
    over_fresh (λ a. a.source.source) before c.args.from c.new-ahead.ensures.held
    (ap (λ a. a.source.source) c.new-ahead.ensures.source ∙ (ap (λ p. p.source) c.new-placed.ensures ∙ c.new.ensures))
    c.new-ahead.ensures.fresh in
    let by_source = subst (λ at. IfSome place (λ p. (front z : List ℕ) → input ≡ Some (front ++ (c.held-held.result.now ++ z))
    → to_come at.source.source ≡ Some z → IsBehind front p))
    c.source.ensures c.place_before-place.ensures.behind in
    let behind = subst (λ held. IfSome place (λ p. (front z : List ℕ) → input ≡ Some (front ++ (held ++ z))
    → to_come after.source.source.source ≡ Some z → IsBehind front p))
    c.held-held.ensures.held by_source in
    let does : DoesOrder taken unwritten hands said unsaid to_come faults unread unwritten_why watched explain order.lines order place
    (over (λ a. a.source.source) before)
    (over (λ a. a.source.source) after) out out' err err' ended =
    subst (λ e. DoesOrder taken unwritten hands said unsaid to_come faults unread unwritten_why watched e order.lines order place (over
    (λ a. a.source.source) before)
    (over (λ a. a.source.source) after) out out' err err' ended) (sym c.requires.explained)
    (subst (λ lines. DoesOrder taken unwritten hands said unsaid to_come faults unread unwritten_why watched true lines order place (over
    (λ a. a.source.source) before)
    (over (λ a. a.source.source) after) out out' err err' ended)
    (sym c.requires.records) (
      answer,
      (
        mid,
        carries (λ a. a.source.source) to_come faults taken unwritten order before after out mid answer c.run-answer.ensures.does,
        (
          notes,
          subst (λ held. SaysMore true order place held answer notes)
              c.held-held.ensures.held c.notes_of_job-notes.ensures,
          subst (λ told. EndsKnown hands said unsaid watched true (unread after.source.source.source) (unwritten_why mid) order told answer
              mid out' err err' ended) c.deref.ensures.value
              (subst (λ (s : _). EndsKnown hands said unsaid watched true (unread s.source) (unwritten_why mid) order c.deref.result.now
              answer mid out' err err' ended) (c.source-source.ensures ∙ ap (λ p. p.source) c.source-2.ensures) c.end_known-answer.ensures),
        ),
      ),
    )) in
    record {
      left = over (λ a. a.source.source) after;
      place = place;
      done = subst (λ (a : Ahead _). Does taken unwritten hands said unsaid to_come faults unread unwritten_why watched (Ok order) place a
          (over (λ a. a.source.source) after) out out' err err' ended) fresh does;
      placed = placed_on place input (to_come c.args.from) (to_come after.source.source.source) after.held c.requires.input behind;
      back = sym (c.into_source-3.ensures.source ∙ ap (λ s. s.source) (c.into_source-2.ensures ∙ ap (λ p. p.source)
          c.into_source.ensures.source));
      few = c.into_source.ensures.few;
    }
