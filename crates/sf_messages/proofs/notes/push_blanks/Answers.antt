use Rattle.std.proofs.Common.{◌≡◌, ◌∙◌, ◌+◌, ◌++◌, ◌∷◌, [], ap, append_assoc, arith, drop, suc, sym}
use Rattle.std.proofs.Math.Seq.{drop-cons}
use Rattle.sf_messages.specs.Notes.{blanks}
use Rattle.sf_messages.proofs.notes.push_blanks.Goals as goal

pub loop-byte-preserved : goal.loop-byte-preserved
loop-byte-preserved c =
    let l = c.loop-byte in
    let bytes = c.args.bytes.now in
    let next : l.byte-index + 1 ≡ suc l.byte-index = omega arith in
    let pushed : c.push.new.self.items ≡ l.output.items ++ 32 ∷ [] = c.in_ok-push.ensures.items in
    ap (λ t. t ++ blanks (drop (l.byte-index + 1) bytes)) pushed
    ∙ append_assoc l.output.items (32 ∷ []) (blanks (drop (l.byte-index + 1) bytes))
    ∙ ap (λ n. l.output.items ++ 32 ∷ blanks (drop n bytes)) next
    ∙ ap (λ rest. l.output.items ++ blanks rest) (sym (drop-cons bytes l.byte-index 0 c.loop-byte-test.true))
    ∙ l.invariant
