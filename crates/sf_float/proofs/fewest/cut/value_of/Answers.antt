use Rattle.std.proofs.Common.{◌≡◌, ◌-◌, ◌/◌, ◌^◌, suc, sym, ap, ◌∙◌, arith, pow-suc, div-add-mod'}
use Rattle.std.proofs.Math.Nat.{div-div-eq-div-mul}
use Rattle.sf_float.proofs.fewest.cut.value_of.Goals as goal

pub loop-k-preserved : goal.loop-k-preserved
loop-k-preserved c =
    let l = c.loop-k in
    let n = c.args.n.now in
    let v = n / 10 ^ (l.k - 1) in
    let s : l.k ≡ suc (l.k - 1) = omega (arith, c.loop-k-test.true) in
    let t : n / 10 ^ l.k ≡ v / 10 = ap (λ k. n / 10 ^ k) s ∙ ap (λ t. n / t) (pow-suc 10 (l.k - 1))
    ∙ sym (div-div-eq-div-mul n (10 ^ (l.k - 1)) 10) in (
      omega (arith, l.invariant.0),
      omega (arith, l.invariant.1, t, c.digit.ensures, div-add-mod' v 10),
    )
