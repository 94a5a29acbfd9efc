use Rattle.std.proofs.Common.{◌≡◌, ◌*◌, ◌<◌, ℕ, Bool, List, None, true, false, sym, subst, arith}
use Rattle.std.specs.Float.Ieee.{Float, binary32, of_bits, neg, ones, hid}
use Rattle.sf_float_read.specs.value.Values.{IsHexValue, stored}
use Rattle.sf_float_read.proofs.ValueLemmas.PatternLemmas.{bits_stored, minus_bits_stored, infinity_stored, minus_infinity_stored}
use Rattle.sf_float_read.proofs.ValueLemmas.PatternLemmas.{minus_value}
use Rattle.sf_float_read.proofs.value.value.hexadecimal_f32.Goals as goal

-- out of range, with either sign
beyond : (negative : Bool) (t : List ℕ) (bits : ℕ) → bits ≡ ones binary32 * hid binary32
    → IsHexValue binary32 false t (of_bits binary32 bits)
    → (x : Float) × IsHexValue binary32 negative t x × (None ≡ stored binary32 x)
beyond true t bits e v = (neg (of_bits binary32 bits), minus_value binary32 t _ v, minus_infinity_stored binary32 bits e)
beyond false t bits e v = (of_bits binary32 bits, v, infinity_stored binary32 bits e)

pub returns-then-bits-eq-INFINITY_F32 : goal.returns-then-bits-eq-INFINITY_F32
returns-then-bits-eq-INFINITY_F32 c = beyond c.args.negative c.args.numeral.now c.hexadecimal-bits.result c.if-bits-eq-INFINITY_F32.true
    c.hexadecimal-bits.ensures.value

pub returns-then-negative : goal.returns-then-negative
returns-then-negative c =
    let b = c.hexadecimal-bits in
    let t = c.args.numeral.now in
    let y = of_bits binary32 b.result in
    let few : b.result < ones binary32 * hid binary32 = omega (arith, b.ensures.most, c.if-bits-eq-INFINITY_F32.false) in (
      neg y,
      subst (λ s. IsHexValue binary32 s t (neg y)) (sym c.if-negative.true) (minus_value binary32 t y b.ensures.value),
      minus_bits_stored binary32 b.result few,
    )

pub returns-else-negative : goal.returns-else-negative
returns-else-negative c =
    let b = c.hexadecimal-bits in
    let t = c.args.numeral.now in
    let y = of_bits binary32 b.result in
    let few : b.result < ones binary32 * hid binary32 = omega (arith, b.ensures.most, c.if-bits-eq-INFINITY_F32.false) in
    (y, subst (λ s. IsHexValue binary32 s t y) (sym c.if-negative.false) b.ensures.value, bits_stored binary32 b.result few)
