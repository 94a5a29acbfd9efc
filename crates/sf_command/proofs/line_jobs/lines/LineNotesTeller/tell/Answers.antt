use Rattle.std.proofs.Common.{◌≡◌, ◌∙◌, ◌++◌, ◌∷◌, [], false, ap, subst, sym, Bool, List, Option, ℕ}
use Rattle.std.specs.Prelude.{option_map}
use Rattle.sf_records.specs.by_lines.Telling.{Tells}
use Rattle.sf_messages.specs.LineTexts.{line_fault_text}
use Rattle.sf_command.specs.console.Fronts.{in_front}
use Rattle.sf_command.proofs.LineJobLemmas.Lining.{says_more}
use Rattle.sf_command.proofs.line_jobs.lines.LineNotesTeller.tell.Goals as goal

pub more_of_line-requires : goal.more_of_line-requires
more_of_line-requires g c = c.args.self.now.known

pub returns-clause-told : goal.returns-clause-told
returns-clause-told g c telling says =
    let notes = c.args.self.now in
    let voice = notes.voice.now in
    let line : List ℕ = line_fault_text c.args.number c.args.fault ++ 10 ∷ [] in
    let line_is : c.as_bytes-line.result.now ≡ line = c.as_bytes-line.ensures.value ∙ c.as_str.ensures.value ∙
    c.line_fault_line-told.ensures in
    let file : Option (List ℕ) = option_map (λ name. name.now) voice.file in
    let all : in_front file c.as_bytes-line.result.now ++ c.deref.result.now ≡ telling c.args.number c.args.line.now c.args.fault =
    ap (λ (t : List ℕ). in_front file t ++ c.deref.result.now) line_is ∙ ap (λ (t : List ℕ). in_front file line ++ t) c.deref.ensures.value
    ∙ sym (says_more file voice.profile voice.quiet voice.text.now voice.format.now telling c.args.number c.args.line.now c.args.fault
    voice.explain says c.if-voice.false c.in_ok-more.more.items c.in_ok-more.ensures) in
    subst (λ (failed : Bool). Tells failed c.write_told-self.result (g.C.Console.said notes.err.now)
    (g.C.Console.said c.write_told-self.new.err) (telling c.args.number c.args.line.now c.args.fault)) (sym c.if-self.false)
    (subst (Tells false c.write_told-self.result (g.C.Console.said notes.err.now) (g.C.Console.said c.write_told-self.new.err)) all
    c.write_told-self.ensures.told)
