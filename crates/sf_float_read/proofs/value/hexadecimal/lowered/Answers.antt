use Rattle.std.proofs.Common.{◌≡◌, ℕ, ◌+◌, ◌*◌, ◌^◌, ◌<◌, ◌≤◌, inl, inr, ap, subst, arith, pow_pos}
use Rattle.fast_float.specs.Rounding.{IsNearestBits}
use Rattle.fast_float.proofs.Extremes.{nearest_of_zero}
use Rattle.sf_float.specs.Quotient.{IsQuotient}
use Rattle.sf_float_read.specs.value.Formats.{format_of}
use Rattle.sf_float_read.proofs.ValueLemmas.HexRounding.{front_zero, front_scaled, tiny}
use Rattle.sf_float_read.proofs.value.hexadecimal.lowered.Goals as goal

pub returns-then-digits-eq0 : goal.returns-then-digits-eq0
returns-then-digits-eq0 c v number f k =
    let d = c.args.digits in
    nearest_of_zero (format_of c.args.kind) (v * 2 ^ 0) (2 ^ (4 * d.places + number)) (pow_pos (4 * d.places + number))
    (ap (λ t. t * 2 ^ 0) (front_zero v d.m d.cut d.lost c.if-digits-eq0.true f))

pub returns-then-exponent : goal.returns-then-exponent
returns-then-exponent c v number f k =
    let d = c.args.digits in
    let far : 2 ^ 100 ≤ number = elim k.either [ inl e ↦ omega (arith, e, c.if-exponent.true) | inr b ↦ b.0 ] in
    let few : 4 * d.cut + 0 < 2 ^ 70 = omega arith in
    tiny (format_of c.args.kind) (v * 2 ^ 0) d.m (4 * d.cut + 0) (4 * d.places + number) d.lost
    (omega (arith, c.if-digits-eq0.false)) c.requires.few.0 (front_scaled v d.m d.cut 0 d.lost f) few (omega arith)

pub returns : goal.returns
returns c v number f k =
    let d = c.args.digits in
    let e : c.args.exponent ≡ number = elim k.either [ inl e ↦ e | inr b ↦ absurd (omega (arith, b.1, c.if-exponent.false)) ] in
    let z : 4 * d.cut + 0 ≡ 4 * d.cut = omega arith in
    subst (λ t. IsNearestBits (format_of c.args.kind) (v * 2 ^ 0) (2 ^ (4 * d.places + t)) c.nearest.result) e
    (c.nearest.ensures (v * 2 ^ 0) (subst (λ (t : ℕ). IsQuotient (v * 2 ^ 0) (2 ^ t) d.m d.lost) z (front_scaled v d.m d.cut 0 d.lost f)))
