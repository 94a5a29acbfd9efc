-- The digits of a text, and its room.
use Rattle.std.proofs.Common.{◌≡◌, ℕ, ◌+◌, ◌-◌, ◌*◌, ◌^◌, ◌<◌, ◌≤◌, Bool, true, refl, sym, ap, ◌∙◌, arith, mul-lt-mul_of_pos_right}
use Rattle.std.proofs.Common.{lt_of_lt_of_le, mul-pos, ◌++◌, codes, true≢false, inl, inr, eq-zero-or-pos}
use Rattle.std.proofs.lemmas.Bool.{ne_eqb}
use Rattle.std.proofs.lemmas.Nat.{pow-add}
use Rattle.std.proofs.Math.Nat.{pow-le-pow_right}
use native.Mathlib.Nat.{eq_of_mul-eq-mul_right}
use lib.Dec.{lit<}
use lib.Ieee.Fits.{down_pos}
use Rattle.std.specs.Float.Ieee.{Float, nan, inf, fin, down, up, is_nan}
use Rattle.std.specs.Float.{is_sign_negative, float_is_infinite}
use Rattle.std.specs.Fmt.{sign_text}
use Rattle.sf_base.specs.declared.real.Real as real
use Rattle.sf_float.specs.Scaled.{is_nonzero}
use Rattle.sf_float.proofs.Limbs.{power_pos}
use Rattle.sf_float.specs.fewest.Cut.{IsCut}
use Rattle.sf_float.specs.fewest.Digits.{shortest}
use Rattle.sf_float.specs.fewest.Laid.{laid_out, size_text}
use Rattle.sf_float.proofs.FewestLemmas.Firsts.{from_quotient}

pub plain_fits : (n a k : ℕ) → n < 10 ^ a → a + k ≤ 18 → n * 10 ^ k < 2 ^ 64
plain_fits n a k l m =
    let p : n * 10 ^ k < 10 ^ a * 10 ^ k = mul-lt-mul_of_pos_right l (power_pos 10 k (lit< tt)) in
    let q : 10 ^ (a + k) ≤ 10 ^ 18 = pow-le-pow_right (lit< tt) {j = 18} m in
    lt_of_lt_of_le p (omega (arith, pow-add 10 a k, q))

-- a float of which digits are kept is not 0
pub not_zero : (x : Float) (first twice : ℕ) (lost : Bool) → IsCut x first twice lost → is_nonzero x
not_zero nan first twice lost z = absurd z.value
not_zero (inf s) first twice lost z = absurd z.value
not_zero (fin s m e) first twice lost z = elim (eq-zero-or-pos m) [ inl h ↦ absurd (none h) | inr p ↦ p ]
  where
    none : m ≡ 0 → ⊥
    none h =
        let u = z.c * 10 ^ (first - 416) in
        let i = 10 ^ (416 - first) in
        let U : 0 < u = mul-pos z.some (power_pos 10 (first - 416) (lit< tt)) in
        let q = from_quotient _ u twice (2 * 10 ^ 16) lost z.full z.quotient in
        let v : z.a * down e ≡ 0 = sym z.value.1 ∙ ap (λ t. t * up e * z.c) h ∙ omega arith in
        let a : z.a ≡ 0 = eq_of_mul-eq-mul_right (down e) (down_pos e) z.a 0 (v ∙ omega arith) in
        absurd (omega (arith, q, U, ap (λ t. t * i) a))

pub kept_text : (r : real.Real) (x : Float) (first twice : ℕ) (lost : Bool) → IsCut x first twice lost
    → size_text r x ≡ laid_out r (shortest r).0 (shortest r).1
kept_text r nan first twice lost z = absurd z.value
kept_text r (inf s) first twice lost z = absurd z.value
kept_text r (fin s m e) first twice lost z =
    rw (ne_eqb m 0 (λ h. absurd (omega (arith, h, not_zero (fin s m e) first twice lost z)))) refl

-- ---- words

pub nan_text : (r : real.Real) (x : Float) → is_nan x ≡ true → sign_text (is_sign_negative x) ++ size_text r x ≡ codes "nan"
unfolding is_nan is_sign_negative
nan_text r nan h = refl
nan_text r (inf s) h = absurd (true≢false (sym h))
nan_text r (fin s m e) h = absurd (true≢false (sym h))

pub infinite_text : (r : real.Real) (x : Float) → float_is_infinite x ≡ true → size_text r x ≡ codes "inf"
unfolding float_is_infinite
infinite_text r nan h = absurd (true≢false (sym h))
infinite_text r (inf s) h = refl
infinite_text r (fin s m e) h = absurd (true≢false (sym h))
