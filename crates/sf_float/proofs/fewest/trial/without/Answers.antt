use Rattle.std.proofs.Common.{◌≡◌, ℕ, ◌+◌, ◌-◌, ◌*◌, ◌/◌, ◌%◌, ◌^◌, ◌<◌, ◌≤◌, sym, ap, ◌∙◌, subst, arith, div-add-mod'}
use lib.Dec.{lit<}
use Rattle.sf_float.proofs.Limbs.{power_pos}
use Rattle.sf_float.specs.fewest.Digits.{trimmed}
use Rattle.sf_float.proofs.FewestLemmas.Full.{trimmed_tens}
use Rattle.sf_float.proofs.fewest.trial.without.Goals as goal

some : (tens more : ℕ) → tens ≡ 10 ^ more → 0 < tens
some tens more e = subst (λ (t : ℕ). 0 < t) (sym e) (power_pos 10 more (lit< tt))

taken_off : (n tens zeros more last : ℕ) → tens ≡ 10 ^ more → zeros + more ≤ 17 → n % tens ≡ 0
    → trimmed (17 - zeros) n (last + zeros) ≡ trimmed (17 - (zeros + more)) (n / tens) (last + (zeros + more))
taken_off n tens zeros more last e few none =
    let whole : n ≡ n / tens * 10 ^ more = sym (div-add-mod' n tens) ∙ ap (λ (r : ℕ). n / tens * tens + r) none
    ∙ omega arith ∙ ap (λ (t : ℕ). n / tens * t) e in
    let a : 17 - zeros ≡ 17 - (zeros + more) + more = omega (arith, few) in
    let b : last + zeros + more ≡ last + (zeros + more) = omega arith in
    (λ i. trimmed (a i) (whole i) (last + zeros)) ∙ trimmed_tens more (17 - (zeros + more)) (n / tens) (last + zeros)
    ∙ ap (trimmed (17 - (zeros + more)) (n / tens)) b

pub nonzero_rem-n : goal.nonzero_rem-n
nonzero_rem-n c = let p = some c.args.tens c.args.more c.requires.tens in omega (arith, p)

pub nonzero_div-result : goal.nonzero_div-result
nonzero_div-result c = let p = some c.args.tens c.args.more c.requires.tens in omega (arith, p)

pub returns-then-n-tens-eq0-clause-same : goal.returns-then-n-tens-eq0-clause-same
returns-then-n-tens-eq0-clause-same c last =
    taken_off c.args.n c.args.tens c.args.zeros c.args.more last c.requires.tens c.requires.few c.if-n-tens-eq0.true
