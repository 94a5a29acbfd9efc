use Rattle.std.proofs.Common.{◌+◌, ◌∙◌, ◌∷◌, ◌++◌, ap, drop, map, string_bytes, sym}
use Rattle.std.proofs.lemmas.List.{at_drop_more}
use Rattle.sf_words.specs.Hyphens.{left_of}
use Rattle.sf_words.proofs.hyphens.clap_words.Goals as goal

pub loop-word-preserved : goal.loop-word-preserved
loop-word-preserved c =
    let words = c.args.words.now in
    let rest = map string_bytes (drop (c.loop-word.word-index + 1) words) in
    let all = map string_bytes c.loop-word.all.items in
    let word = ap (λ w. all ++ left_of c.loop-word.next (w ∷ rest)) c.as_str.ensures.value in
    let item = ap (λ w. all ++ left_of c.loop-word.next (string_bytes w ∷ rest)) c.word-item.is in
    let left = at_drop_more (λ ws. all ++ left_of c.loop-word.next (map string_bytes ws)) words c.loop-word.word-index _
    c.loop-word-test.true in
    c.in_ok-next.ensures rest ∙ word ∙ item ∙ sym left ∙ c.loop-word.invariant
