use Rattle.std.proofs.Common.{◌≡◌, ◌<◌, ◌+◌, ◌∙◌, ◌∷◌, [], arith, length, map, string_bytes, subst, ap, sym}
use Rattle.std.proofs.lemmas.List.{length-map, map-append}
use Rattle.sf_base.specs.Data.{datum_of}
use Rattle.sf_arguments.specs.Arguments.{StandsAt}
use Rattle.sf_arguments.proofs.Places.{Stood, shown_is, stood_more, stood_all, text_is}
use Rattle.sf_arguments.proofs.print.values_of_words.Goals as goal

pub bounds-texts-at : goal.bounds-texts-at
bounds-texts-at c =
    omega (arith, length-map c.args.words.now string_bytes, length-map c.args.texts.now (λ t. t.items), c.requires.texts.same)

pub value_at-value-requires : goal.value_at-value-requires
value_at-value-requires c =
    let words = map string_bytes c.args.words.now in
    let is = shown_is string_bytes c.args.words.now c.loop-at.at c.index-words-at.result c.as_str.result.now
    (omega arith) c.index-words-at.is c.as_str.ensures.value in
    let below : c.loop-at.at < length c.args.texts.now = omega (
      arith,
      length-map c.args.words.now string_bytes,
      length-map c.args.texts.now (λ t. t.items),
      c.requires.texts.same,
    ) in
    let there = shown_is (λ t. t.items) c.args.texts.now c.loop-at.at c.index-texts-at.result c.as_slice.result.now below
    c.index-texts-at.is c.as_slice.ensures.value in
    record {
      text = text_is c.args.how c.args.units.now words
          (map (λ t. t.items) c.args.texts.now) c.loop-at.at c.as_str.result.now c.as_slice.result.now
          c.requires.texts is there;
      stands = c.requires.stand c.loop-at.at c.as_str.result.now (omega arith) is;
    }

pub loop-at-preserved : goal.loop-at-preserved
loop-at-preserved c =
    let units = c.args.units.now in
    let words = map string_bytes c.args.words.now in
    let is = shown_is string_bytes c.args.words.now c.loop-at.at c.index-words-at.result c.as_str.result.now
    (omega arith) c.index-words-at.is c.as_str.ensures.value in
    let values = c.loop-at.values.items in
    let value = c.value_at-value.result in
    let e = ap (map datum_of) c.push_reserved.ensures.items ∙ map-append datum_of values (value ∷ []) in
    record {
      stood =
          subst (Stood (StandsAt c.args.how units) words (c.loop-at.at + 1)) (sym e)
          (stood_more (StandsAt c.args.how units) words c.loop-at.at c.as_str.result.now (map datum_of values)
          (datum_of value) c.loop-at.invariant.stood is c.value_at-value.ensures);
      len = omega (arith, c.push_reserved.ensures.len, c.loop-at.invariant.len);
      capacity = omega (arith, c.push_reserved.ensures.capacity, c.loop-at.invariant.capacity);
    }

pub returns : goal.returns
returns c =
    let units = c.args.units.now in
    let words = map string_bytes c.args.words.now in
    let count = length-map c.args.words.now string_bytes in
    let all : c.loop-at.at ≡ length words = omega (arith, count) in
    stood_all c.args.how units words (map datum_of c.loop-at.values.items) (count ∙ c.requires.count)
    (subst (λ n. Stood (StandsAt c.args.how units) words n (map datum_of c.loop-at.values.items)) all c.loop-at.invariant.stood)
