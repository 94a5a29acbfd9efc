use Rattle.std.proofs.Common.{◌≡◌, ◌+◌, ◌*◌, ◌^◌, ◌<◌, ◌≤◌, inl, inr, sym, ap, ◌∙◌, subst, arith, pow_pos}
use Rattle.fast_float.specs.Rounding.{IsNearestBits}
use Rattle.fast_float.proofs.Extremes.{nearest_of_zero}
use Rattle.sf_float_read.specs.value.Formats.{format_of}
use Rattle.sf_float_read.proofs.ValueLemmas.HexRounding.{front_zero, front_scaled, huge}
use Rattle.sf_float_read.proofs.value.hexadecimal.raised.Goals as goal

pub returns-then-digits-eq0 : goal.returns-then-digits-eq0
returns-then-digits-eq0 c v number f k =
    let d = c.args.digits in
    nearest_of_zero (format_of c.args.kind) (v * 2 ^ number) (2 ^ (4 * d.places)) (pow_pos (4 * d.places))
    (ap (λ t. t * 2 ^ number) (front_zero v d.m d.cut d.lost c.if-digits-eq0.true f) ∙ omega arith)

pub returns-then-exponent : goal.returns-then-exponent
returns-then-exponent c v number f k =
    let d = c.args.digits in
    let far : 2 ^ 100 ≤ number = elim k.either [ inl e ↦ omega (arith, e, c.if-exponent.true) | inr b ↦ b.0 ] in
    let few : 4 * d.places < 2 ^ 70 = omega arith in
    subst (IsNearestBits (format_of c.args.kind) (v * 2 ^ number) (2 ^ (4 * d.places))) (sym c.infinity.ensures)
    (huge (format_of c.args.kind) (v * 2 ^ number) d.m (4 * d.cut + number) (4 * d.places) d.lost (omega (arith, c.if-digits-eq0.false))
    (front_scaled v d.m d.cut number d.lost f) (omega arith) few)

pub returns : goal.returns
returns c v number f k =
    let d = c.args.digits in
    let e : c.args.exponent ≡ number = elim k.either [ inl e ↦ e | inr b ↦ absurd (omega (arith, b.1, c.if-exponent.false)) ] in
    subst (λ t. IsNearestBits (format_of c.args.kind) (v * 2 ^ t) (2 ^ (4 * d.places)) c.nearest.result) e
    (c.nearest.ensures (v * 2 ^ c.args.exponent) (front_scaled v d.m d.cut c.args.exponent d.lost f))
