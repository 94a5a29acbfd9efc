use Rattle.std.proofs.Common.{◌*◌, ◌^◌, false, sym, ap, ◌∙◌, arith, pow_pos, inl, inr, subst, ℕ}
use Rattle.std.specs.Float.Ieee.{binary64, of_bits}
use Rattle.ryu.proofs.Signs.{finite_number}
use Rattle.sf_float.proofs.ReadBack.{zero_size}
use Rattle.sf_float.proofs.Firsts.{zero_of_value}
use Rattle.sf_float.specs.fewest.Cut.{IsCut}
use Rattle.sf_float.proofs.FewestLemmas.Firsts.{signed_value, kept, kept_next, few_tens}
use Rattle.sf_float.proofs.fewest.cut.cut_of.Goals as goal

pub sign_and_bits-bits-requires : goal.sign_and_bits-bits-requires
sign_and_bits-bits-requires c = finite_number c.args.x c.requires.finite

pub returns-then-size-eq0-clause-zero : goal.returns-then-size-eq0-clause-zero
returns-then-size-eq0-clause-zero c =
    let s = c.size_of-size in
    let b = c.sign_and_bits-bits in
    zero_size binary64 c.args.x b.result.0 b.result.1 b.ensures (zero_of_value (of_bits binary64 b.result.1) false _ _
    (pow_pos s.result.down) (ap (λ t. t * 2 ^ s.result.up) c.if-size-eq0.true ∙ omega arith) s.ensures.value)

pub returns-clause-cut : goal.returns-clause-cut
returns-clause-cut c =
    let s = c.size_of-size in
    let z = s.result in
    let b = c.sign_and_bits-bits in
    let p = c.guess-first in
    let t = c.twice-twice in
    let r = c.fitted.result in
    let value = signed_value binary64 c.args.x b.result.0 b.result.1 (z.m * 2 ^ z.up) (2 ^ z.down) b.ensures s.ensures.value in
    let D = pow_pos z.down in
    let q = c.fitted.ensures.same (z.m * 2 ^ z.up) (2 ^ z.down) D t.ensures in
    elim c.fitted.ensures.first [
      | inl e ↦ subst (λ (k : ℕ). IsCut c.args.x k r.twice r.lost) (sym e.1)
          (kept c.args.x b.result.0 (z.m * 2 ^ z.up) (2 ^ z.down) p.result r.twice r.lost D value p.ensures.few p.ensures.from
          p.ensures.below (rw e.1 at q) (rw (← e.2) at e.0))
      | inr e ↦ subst (λ (k : ℕ). IsCut c.args.x k r.twice r.lost) (sym e.1)
          (kept_next c.args.x b.result.0 (z.m * 2 ^ z.up) (2 ^ z.down) p.result t.result.0 t.result.1 D value p.ensures.few p.ensures.from
          p.ensures.below t.ensures r.twice r.lost e.0 e.2 (rw e.1 at q))
    ]

pub returns-clause-few : goal.returns-clause-few
returns-clause-few c =
    let s = c.size_of-size in
    let z = s.result in
    let p = c.guess-first in
    let l = few_tens z.m z.up z.down p.result (omega (arith, c.if-size-eq0.false)) s.ensures.few.2 p.ensures.below in
    elim c.fitted.ensures.first [
      | inl e ↦ (omega (arith, l, e.1), omega (arith, p.ensures.few, e.1))
      | inr e ↦ (omega (arith, l, e.1), omega (arith, p.ensures.few, e.1))
    ]
