use Rattle.std.proofs.Common.{◌≡◌, ℕ, ◌*◌, ◌^◌, false, ap, sym, ◌∙◌, arith, pow_pos}
use Rattle.std.proofs.lemmas.Option.{IfSome_then}
use Rattle.std.specs.Float.Ieee.{binary64, of_bits}
use Rattle.std.specs.Float.Ieee.Nearest.{closest}
use Rattle.ryu.proofs.Signs.{finite_number}
use Rattle.sf_float.specs.Scaled.{scaled}
use Rattle.sf_float.proofs.ReadBack.{size_of, scaled_of_value}
use Rattle.sf_float.proofs.short.short_fixed.Goals as goal

pub sign_and_bits-bits-requires : goal.sign_and_bits-bits-requires
sign_and_bits-bits-requires c = finite_number c.args.x c.requires

pub returns-clause-value : goal.returns-clause-value
returns-clause-value c =
    let s = c.size_of-size in
    let b = c.sign_and_bits-bits in
    let z = s.result in
    let up : 2 ^ z.up ≡ 1 = (let e : z.up ≡ 0 = omega (arith, c.if-size-gt0.false) in ap (λ t. 2 ^ t) e) in
    let same : z.m * 10 ^ c.args.decimals ≡ z.m * 2 ^ z.up * 10 ^ c.args.decimals = rw up (omega arith) in
    let one : 2 ^ z.down ≡ 2 ^ z.down * 10 ^ 0 = omega arith in
    let scaled_is = sym (scaled_of_value (of_bits binary64 b.result.1) false _ _ c.args.decimals 0
    (pow_pos z.down) s.ensures.value) ∙ size_of binary64 c.args.x b.result.0 b.result.1 c.args.decimals 0 b.ensures in
    IfSome_then {X = ℕ} c.nearest_short.result {P = λ n. n ≡ closest (z.m * 10 ^ c.args.decimals) (2 ^ z.down)}
    {Q = λ n. n ≡ scaled c.args.x c.args.decimals 0} c.nearest_short.ensures (λ n h. h ∙ (λ i. closest (same i) (one i)) ∙ scaled_is)
