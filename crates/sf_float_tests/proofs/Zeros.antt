-- Floats that are 0, and answers that are there.
use Rattle.std.proofs.Common.{◌≡◌, ℕ, ◌+◌, ◌-◌, ◌*◌, ◌^◌, ◌<◌, ◌≤◌, Option, Some, None, refl, ap, ◌∙◌, arith, mul-pos, mul-le-mul_right}
use Rattle.std.specs.Prelude.{IfSome}
use Rattle.std.specs.Float.Ieee.{Float, nan, inf, fin, up, down}
use lib.Dec.{lit<}
use lib.Ieee.Fits.{down_pos}
use Rattle.sf_float.proofs.Limbs.{power_pos}
use Rattle.sf_float.proofs.ReadBack.{bounds}
use Rattle.sf_float.specs.Scaled.{IsSignificant, is_nonzero, is_zero}

pub zero_not : (x : Float) → is_zero x → is_nonzero x → ⊥
zero_not nan z some = z
zero_not (inf s) z some = z
zero_not (fin s m e) z some = absurd (omega (arith, z, some))

-- 0 has no significant digits
pub none_significant : (x : Float) (digits n power : ℕ) → is_zero x → IsSignificant x digits n power → 0 < n → ⊥
none_significant nan digits n power z h some = z
none_significant (inf s) digits n power z h some = z
none_significant (fin s m e) digits n power z h some =
    let up_by = 10 ^ (digits + 399 - power) in
    let down_by = 10 ^ (power - (digits + 399)) in
    let u = down e * down_by in
    let nothing : m * up e * up_by ≡ 0 = ap (λ (k : ℕ). k * up e * up_by) z ∙ omega arith in
    let step : 0 < u = mul-pos (down_pos e) (power_pos 10 (power - (digits + 399)) (lit< tt)) in
    let b = bounds (m * up e * up_by) u step in
    let one : 1 * u ≤ n * u = mul-le-mul_right u some in
    absurd (omega (arith, b.from, nothing, step, one, ap (λ (k : ℕ). k * u) h.is))

pub with_answer : {A : Type 0} {Q : A → Type 0} (o : Option A) → ((a : A) → o ≡ Some a → Q a) → IfSome o Q
with_answer None f = tt
with_answer (Some a) f = f a refl
