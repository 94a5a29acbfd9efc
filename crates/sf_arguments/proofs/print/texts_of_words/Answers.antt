use Rattle.std.proofs.Common.{◌≡◌, ◌+◌, ◌∙◌, ◌∷◌, [], arith, length, map, string_bytes, subst, ap, sym}
use Rattle.std.proofs.lemmas.List.{length-map, map-append}
use Rattle.sf_arguments.specs.Arguments.{IsTextAt}
use Rattle.sf_arguments.proofs.Places.{Stood, shown_is, stood_more, texts_all}
use Rattle.sf_arguments.proofs.print.texts_of_words.Goals as goal

pub text_at-requires : goal.text_at-requires
text_at-requires c =
    let is = shown_is string_bytes c.args.words.now c.loop-at.at c.index-words-at.result c.as_str.result.now
    (omega arith) c.index-words-at.is c.as_str.ensures.value in
    c.requires.stand c.loop-at.at c.as_str.result.now (omega arith) is

pub loop-at-preserved : goal.loop-at-preserved
loop-at-preserved c =
    let units = c.args.units.now in
    let words = map string_bytes c.args.words.now in
    let is = shown_is string_bytes c.args.words.now c.loop-at.at c.index-words-at.result c.as_str.result.now
    (omega arith) c.index-words-at.is c.as_str.ensures.value in
    let texts = c.loop-at.texts.items in
    let text = c.in_ok-text.text in
    let e = ap (map (λ t. t.items)) c.push_reserved.ensures.items ∙ map-append (λ t. t.items) texts (text ∷ []) in
    record {
      stood = subst (Stood (IsTextAt c.args.how units) words (c.loop-at.at + 1)) (sym e)
          (stood_more (IsTextAt c.args.how units) words c.loop-at.at c.as_str.result.now
          (map (λ t. t.items) texts) text.items c.loop-at.invariant.stood is c.in_ok-text.ensures);
      len = omega (arith, c.push_reserved.ensures.len, c.loop-at.invariant.len);
      capacity = omega (arith, c.push_reserved.ensures.capacity, c.loop-at.invariant.capacity);
    }

pub returns : goal.returns
returns c =
    let units = c.args.units.now in
    let words = map string_bytes c.args.words.now in
    let count = length-map c.args.words.now string_bytes in
    let all : c.loop-at.at ≡ length words = omega (arith, count) in
    texts_all c.args.how units words (map (λ t. t.items) c.loop-at.texts.items)
    (subst (λ n. Stood (IsTextAt c.args.how units) words n (map (λ t. t.items) c.loop-at.texts.items)) all c.loop-at.invariant.stood)
