use Rattle.std.proofs.Common.{◌++◌, sym, ap, ◌∙◌}
use Rattle.std.specs.Float.{is_sign_negative}
use Rattle.std.specs.Fmt.{sign_text}
use Rattle.sf_float.proofs.Sorts.{finite_else}
use Rattle.sf_float.specs.fewest.Laid.{size_text, shortest_text}
use Rattle.sf_float.proofs.FewestLemmas.Texts.{nan_text, infinite_text}
use Rattle.sf_float.proofs.fewest.text.write_shortest.Goals as goal

pub returns-then-is_nan-clause-text : goal.returns-then-is_nan-clause-text
unfolding shortest_text
returns-then-is_nan-clause-text c =
    c.put_word.ensures.text
    ∙ sym (ap (λ x. sign_text (is_sign_negative x) ++ size_text c.args.real x) (sym c.number_of-x.ensures)
    ∙ nan_text c.args.real c.number_of-x.result (sym c.is_nan.ensures.value ∙ c.if-is_nan.true))

pub returns-then-is_infinite-clause-text : goal.returns-then-is_infinite-clause-text
unfolding shortest_text
returns-then-is_infinite-clause-text c =
    let s = c.put_sign-at.ensures in
    c.put_word-then-is_infinite.ensures.text
    ∙ (λ i. (s.written ∙ ap sign_text c.is_sign_negative.ensures) i
    ++ sym (infinite_text c.args.real c.number_of-x.result (sym c.is_infinite.ensures.value ∙ c.if-is_infinite.true)) i)
    ∙ ap (λ x. sign_text (is_sign_negative x) ++ size_text c.args.real x) c.number_of-x.ensures

pub put_finite-requires-clause-finite : goal.put_finite-requires-clause-finite
put_finite-requires-clause-finite c = finite_else c.number_of-x.result (sym c.is_nan.ensures.value ∙ c.if-is_nan.false)
    (sym c.is_infinite.ensures.value ∙ c.if-is_infinite.false)

pub returns-clause-text : goal.returns-clause-text
unfolding shortest_text
returns-clause-text c =
    let s = c.put_sign-at.ensures in
    c.put_finite.ensures.text
    ∙ ap (λ t. t ++ size_text c.args.real c.number_of-x.result) (s.written ∙ ap sign_text c.is_sign_negative.ensures)
    ∙ ap (λ x. sign_text (is_sign_negative x) ++ size_text c.args.real x) c.number_of-x.ensures
