use Rattle.std.proofs.Common.{◌≡◌, ◌+◌, ◌-◌, ℕ, sym, ap, ◌∙◌, arith}
use Rattle.sf_float.specs.fewest.Digits.{number_of, near, searched}
use Rattle.sf_float.proofs.FewestLemmas.Trials.{searched_found, searched_next, searched_last}
use Rattle.sf_float.proofs.fewest.trial.searched_from.Goals as goal

pub returns-in-Some-clause-value : goal.returns-in-Some-clause-value
returns-in-Some-clause-value c =
    let l = c.loop-decimals in
    let f = searched_found c.args.real (c.most_decimals-most.result - l.decimals) (c.args.cut.first - l.decimals) c.in-Some.n
    (omega (arith, c.loop-decimals-test.true)) (sym c.in-Some.is ∙ c.tried.ensures.value) in
    sym (ap (λ k. searched c.args.real (k - c.args.from) (c.args.cut.first - c.args.from)) (sym c.most_decimals-most.ensures.value) ∙
    l.invariant.1 ∙ f)

pub loop-decimals-preserved : goal.loop-decimals-preserved
loop-decimals-preserved c =
    let l = c.loop-decimals in
    let k = c.most_decimals-most.result - l.decimals in
    let last = c.args.cut.first - l.decimals in
    let a : k - 1 ≡ c.most_decimals-most.result - (l.decimals + 1) = omega arith in
    let b : last - 1 ≡ c.args.cut.first - (l.decimals + 1) = omega arith in
    let f = searched_next c.args.real k last (omega (arith, c.loop-decimals-test.true)) (sym c.in_default.is ∙ c.tried.ensures.value) in
    (omega (arith, c.loop-decimals-test.true), l.invariant.1 ∙ f ∙ (λ i. searched c.args.real (a i) (b i)))

pub returns-clause-value : goal.returns-clause-value
returns-clause-value c =
    let l = c.loop-decimals in
    let most = c.most_decimals-most.result in
    let e : l.decimals ≡ most = omega (arith, l.invariant.0, c.loop-decimals-test.false) in
    let z : most - l.decimals ≡ 0 = omega arith in
    let f = searched_last c.args.real (most - l.decimals) (c.args.cut.first - l.decimals) z in
    let n = c.sides.ensures.near (number_of c.args.real) c.requires.cut in
    let whole = ap (λ k. searched c.args.real (k - c.args.from) (c.args.cut.first - c.args.from)) (sym c.most_decimals-most.ensures.value) ∙
    l.invariant.1 ∙ f in
    (λ i. (n i, c.args.cut.first - most))
    ∙ sym (whole ∙ ap (λ (d : ℕ). (near (number_of c.args.real) (c.args.cut.first - d), c.args.cut.first - d)) e)
