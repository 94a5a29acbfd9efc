use Rattle.std.proofs.Common.{◌≡◌, ℕ, ◌-◌, ◌≤◌, false, Option, Some, None, refl, subst, sym, ◌∙◌, arith, true≢false}
use Rattle.std.specs.Prelude.{is_some}
use Rattle.sf_float.specs.fewest.Digits.{number_of, tried}
use Rattle.sf_float.proofs.FewestLemmas.Fewest.{none_before}
use Rattle.sf_float.proofs.FewestLemmas.ReadBack.{most_few}
use Rattle.sf_float.proofs.FewestLemmas.Texts.{not_zero}
use Rattle.sf_float.proofs.FewestLemmas.Trials.{searched_after}
use Rattle.sf_float.proofs.fewest.trial.searched.Goals as goal

no_some : (o : Option ℕ) → is_some o ≡ false → o ≡ None
no_some None h = refl
no_some (Some n) h = absurd (true≢false h)

pub returns-then-is_none-clause-value : goal.returns-then-is_none-clause-value
returns-then-is_none-clause-value c =
    let f = c.args.cut.first in
    let k = c.loop-from.from - 1 in
    let z = c.requires.cut in
    let none : tried c.args.real (f - k) ≡ None = sym c.tried.ensures.value ∙ no_some _ c.if-is_none.ensures in
    let all : (j : ℕ) → j ≤ k → tried c.args.real (f - j) ≡ None =
    subst (λ (p : ℕ). tried c.args.real (p - k) ≡ None → (j : ℕ) → j ≤ k → tried c.args.real (p - j) ≡ None) (sym z.first_is)
    (none_before c.args.real (number_of c.args.real) refl (not_zero _ f c.args.cut.twice c.args.cut.lost z) k
    (omega (arith, c.loop-from.invariant, most_few c.args.real))) none in
    c.searched_from.ensures.value
    ∙ sym (searched_after c.args.real _ f c.loop-from.from c.loop-from.invariant
    (λ j h. all j (omega (arith, h))))
