use Rattle.std.proofs.Common.{◌≡◌, ◌++◌, IfOk, subst, sym}
use Rattle.sf_messages.specs.Notes.{value_note, value_notes}
use Rattle.sf_messages.specs.Sentences.{no_value_text}
use Rattle.sf_messages.proofs.notes.value_notes.Goals as goal

pub returns-in-NotInKind : goal.returns-in-NotInKind
returns-in-NotInKind c =
    let front = c.no_value_text-front in
    let range = c.range_text-range in
    subst (λ fault. IfOk c.value_note.result (λ notes. notes.items ≡ value_notes c.args.word.now fault)) (sym c.in-NotInKind.is)
    (subst (λ numbers. IfOk c.value_note.result (λ notes. notes.items
    ≡ value_note c.in-NotInKind.at c.args.word.now (no_value_text c.in-NotInKind.kind ++ numbers))) range.ensures
    (subst (λ text. IfOk c.value_note.result (λ notes. notes.items
    ≡ value_note c.in-NotInKind.at c.args.word.now (text ++ range.result.now))) front.ensures c.value_note.ensures))
