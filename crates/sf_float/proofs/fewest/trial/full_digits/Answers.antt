use Rattle.std.proofs.Common.{◌*◌, ◌^◌, ◌≡◌, ℕ, refl, subst, sym, ap, ◌∙◌, arith}
use Rattle.std.specs.Float.Ieee.{Float, binary64}
use Rattle.std.specs.Float.Ieee.Exact.{HasValue}
use Rattle.ryu.proofs.Signs.{finite_number}
use Rattle.sf_base.specs.declared.real.Real as real
use Rattle.sf_float.specs.fewest.Full.{IsFull, IsFullDouble}
use Rattle.sf_float.proofs.FewestLemmas.Firsts.{signed_value}
use Rattle.sf_float.proofs.fewest.trial.full_digits.Goals as goal

pub sign_and_bits-pattern-requires : goal.sign_and_bits-pattern-requires
sign_and_bits-pattern-requires c = finite_number _ (rw c.f64_from_bits_with_nan.ensures (rw c.in-F64.is at c.requires))

pub returns-then-is_full_size : goal.returns-then-is_full_size
returns-then-is_full_size c =
    let x = c.f64_from_bits_with_nan.result in
    let b = c.sign_and_bits-pattern in
    let z = c.size_of-size.result in
    let is = c.if-is_full_size.ensures in
    let up : z.m * 2 ^ z.up ≡ z.m = ap (λ (k : ℕ). z.m * 2 ^ k) (is.up refl) ∙ omega arith in
    let value : HasValue x b.result.0 (z.m * 2 ^ z.up) (2 ^ z.down) =
    signed_value binary64 x b.result.0 b.result.1 (z.m * 2 ^ z.up) (2 ^ z.down) b.ensures c.size_of-size.ensures.value in
    let full : IsFull x z.m = record {
      negative = b.result.0;
      down = z.down;
      value = subst (λ (m : ℕ). HasValue x b.result.0 m (2 ^ z.down)) up value;
      least = is.least refl;
      most = is.most refl;
      few = c.size_of-size.ensures.few.2;
    } in
    subst (λ (r : real.Real). IsFullDouble r z.m) (sym c.in-F64.is)
    (subst (λ (y : Float). IsFull y z.m) c.f64_from_bits_with_nan.ensures full)
