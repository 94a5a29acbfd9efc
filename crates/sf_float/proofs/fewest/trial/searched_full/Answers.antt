use Rattle.std.proofs.Common.{◌≡◌, ℕ, ◌-◌, ◌≤◌, Some, None, refl, subst, sym, ◌∙◌, arith}
use Rattle.sf_float.specs.fewest.Digits.{number_of, most_decimals, tried, trimmed, shortest}
use Rattle.sf_float.proofs.FewestLemmas.Fewest.{none_before}
use Rattle.sf_float.proofs.FewestLemmas.Full.{short_is, most_of_full, searched_same}
use Rattle.sf_float.proofs.FewestLemmas.Texts.{not_zero}
use Rattle.sf_float.proofs.FewestLemmas.Trials.{searched_after}
use Rattle.sf_float.proofs.fewest.trial.searched_full.Goals as goal

pub returns-in-Some-clause-same : goal.returns-in-Some-clause-same
returns-in-Some-clause-same c =
    let z = c.requires.cut in
    let f = c.args.cut.first in
    subst (λ (p : ℕ). tried c.args.real (p - 14) ≡ Some c.in-Some.n → trimmed 17 c.in-Some.n (p - 14) ≡ shortest c.args.real)
    (sym z.first_is)
    (short_is c.args.real c.args.m c.requires.full (not_zero _ f c.args.cut.twice c.args.cut.lost z)
    (subst (λ (p : ℕ). 16 ≤ p) z.first_is c.requires.few.0) c.in-Some.n)
    (sym c.in-Some.ensures.value)

pub returns-clause-same : goal.returns-clause-same
returns-clause-same c =
    let z = c.requires.cut in
    let f = c.args.cut.first in
    let most = most_of_full c.args.real c.args.m c.requires.full in
    let none : tried c.args.real (f - 14) ≡ None = sym c.in_default.ensures.value in
    let all : (j : ℕ) → j ≤ 14 → tried c.args.real (f - j) ≡ None =
    subst (λ (p : ℕ). tried c.args.real (p - 14) ≡ None → (j : ℕ) → j ≤ 14 → tried c.args.real (p - j) ≡ None) (sym z.first_is)
    (none_before c.args.real (number_of c.args.real) refl (not_zero _ f c.args.cut.twice c.args.cut.lost z) 14 (omega arith)) none in
    searched_same c.args.real c.searched_from.result f z.first_is
    (c.searched_from.ensures.value
    ∙ sym (searched_after c.args.real (most_decimals c.args.real) f 15 (omega (arith, most)) (λ j h. all j (omega (arith, h)))))
