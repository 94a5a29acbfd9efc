-- The digits of a hexadecimal numeral and its exponent, rounded.
use Rattle.std.proofs.Common.{◌≡◌, ℕ, ◌+◌, ◌-◌, ◌*◌, ◌^◌, ◌<◌, ◌≤◌, Bool, true, false, refl, sym, ap, ◌∙◌, subst, inl, inr, arith, pow_pos}
use Rattle.std.proofs.Common.{pow_mono, eq-zero-or-pos, lt_of_lt_of_le}
use Rattle.std.proofs.Math.Nat.{lt_of_not-le, not-le_of_lt}
use Rattle.std.proofs.lemmas.Nat.{pow-add}
use lib.Ieee.{Format, prec, low, hid, ones, size}
use lib.Dec.{lit<}
use lib.Ieee.Digits.{size-lt, size-le}
use lib.Ieee.Nearest.{closest}
use Rattle.fast_float.specs.Rounding.{IsNearestBits}
use Rattle.fast_float.proofs.Patterns.{shape}
use Rattle.sf_float.specs.Quotient.{IsQuotient}
use Rattle.sf_float.proofs.Hexadecimals.{sixteens}
use Rattle.sf_float_read.specs.value.Hexadecimals.{IsFront}
use Rattle.sf_float_read.proofs.ValueLemmas.Rounding.{scaled_quotient}
use Rattle.sf_float_read.proofs.ValueLemmas.RoundingCases.{above, normal, infinite_at, least_none}

pub front_zero : (v m cut : ℕ) (lost : Bool) → m ≡ 0 → IsFront v m cut lost → v ≡ 0
front_zero v m cut lost z f =
    elim (eq-zero-or-pos cut) [
      | inr p ↦ absurd (omega (arith, f.long p))
      | inl e ↦ go lost refl
    ]
  where
    go : (b : Bool) → lost ≡ b → v ≡ 0
    go true h = elim (eq-zero-or-pos cut) [ inr p ↦ absurd (omega (arith, f.long p)) | inl e ↦ absurd (omega (arith, f.known h)) ]
    go false h = let q : v ≡ m * 16 ^ cut = subst (λ (b : Bool). IsQuotient v (16 ^ cut) m b) h f.quotient in
        q ∙ ap (λ k. k * 16 ^ cut) z ∙ omega arith

pub front_scaled : (v m cut u : ℕ) (lost : Bool) → IsFront v m cut lost → IsQuotient (v * 2 ^ u) (2 ^ (4 * cut + u)) m lost
front_scaled v m cut u lost f =
    let e : 16 ^ cut * 2 ^ u ≡ 2 ^ (4 * cut + u) = ap (λ k. k * 2 ^ u) (sym (sixteens cut)) ∙ sym (pow-add 2 (4 * cut) u) in
    subst (λ (w : ℕ). IsQuotient (v * 2 ^ u) w m lost) e (scaled_quotient v (16 ^ cut) m (2 ^ u) lost (pow_pos u) f.quotient)

-- ---- how many binary digits m has

size_some : (m : ℕ) → 0 < m → 0 < size m
size_some m M = lt_of_not-le (λ (g : size m ≤ 0). not-le_of_lt (lt_of_lt_of_le (size-lt m) (pow_mono g)) (omega arith))

size_from : (m : ℕ) → 0 < m → 2 ^ (size m - 1) ≤ m
size_from m M =
    let s = size_some m M in
    elim (eq-zero-or-pos (2 ^ (size m - 1) - m)) [
      | inl z ↦ omega arith
      | inr p ↦ let l : size m ≤ size m - 1 = size-le m (size m - 1) (omega arith) in absurd (omega arith)
    ]

size_few : (m : ℕ) → m < 2 ^ 60 → size m ≤ 60
size_few m h = size-le m 60 h

-- ---- exponents beyond the bound

pub huge : (f : Format) (n m up down : ℕ) (lost : Bool) → 0 < m → IsQuotient n (2 ^ up) m lost → 2 ^ 100 ≤ up → down < 2 ^ 70
    → IsNearestBits f n (2 ^ down) (ones f * hid f)
huge f n m up down lost M q h l =
    let p = shape f in
    let s = size m in
    let k = s + (up + low f) - (prec f + down) in
    let far : 2 ^ 70 + 10000 < 2 ^ 100 = lit< tt in
    let g : 2100 < k = omega (arith, size_some m M, p.digits.1) in
    subst (IsNearestBits f n (2 ^ down)) (infinite_at f (closest (n * 2 ^ low f) (2 ^ down * 2 ^ k)) k g)
    (normal f n m up down s k lost q (size_some m M) (size_from m M) (size-lt m) (omega arith) (omega arith))

pub tiny : (f : Format) (n m up down : ℕ) (lost : Bool) → 0 < m → m < 2 ^ 60 → IsQuotient n (2 ^ up) m lost → up < 2 ^ 70 → 2 ^ 100 ≤ down
    → IsNearestBits f n (2 ^ down) 0
tiny f n m up down lost M F q h l =
    let p = shape f in
    let s = size m in
    let far : 2 ^ 70 + 10000 < 2 ^ 100 = lit< tt in
    least_none f n m (up + low f) down s lost (above f n m up down s 0 lost q (size_some m M) (size_from m M) (size-lt m)) (size_some m M)
    (size_from m M) (size-lt m)
    (omega (arith, size_few m F, p.least.1)) (size_few m F) (omega (arith, p.least.1))
