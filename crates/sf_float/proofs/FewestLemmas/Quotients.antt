-- Quotients that are cut, and that know whether anything was cut off.
use Rattle.std.proofs.Common.{◌≡◌, ℕ, suc, ◌+◌, ◌-◌, ◌*◌, ◌/◌, ◌%◌, ◌^◌, ◌<◌, Bool, true, false, not, ◌||◌, nat_eq, refl, sym, ap, inl, inr}
use Rattle.std.proofs.Common.{arith, eq-zero-or-pos, mod-lt, div-add-mod', pow-suc, mul-pos, mul-lt-mul_of_pos_right}
use Rattle.std.proofs.lemmas.Bool.{eqb-true, eqb-false}
use lib.Dec.{lit<}
use Rattle.sf_float.specs.Quotient.{IsQuotient}
use Rattle.sf_float.proofs.Limbs.{power_pos}
use Rattle.sf_float.proofs.Quotients.{divided_evenly, divided}

pub quotient : (a d : ℕ) → 0 < d → IsQuotient a d (a / d) (not (nat_eq (a / d * d) a))
quotient a d D = by (nat_eq (a / d * d) a) refl
  where
    by : (b : Bool) → nat_eq (a / d * d) a ≡ b → IsQuotient a d (a / d) (not b)
    by true h = sym (eqb-true _ _ h)
    by false h = (a % d, sym (div-add-mod' a d), some, mod-lt a D)
      where
        some : 0 < a % d
        some = elim (eq-zero-or-pos (a % d)) [ inl z ↦ absurd (eqb-false _ _ h (omega (arith, div-add-mod' a d, z))) | inr p ↦ p ]

-- a tenth
tenth : (a d n : ℕ) (lost : Bool) → 0 < d → IsQuotient a d n lost → IsQuotient a (d * 10) (n / 10) (lost || not (nat_eq (n % 10) 0))
tenth a d n lost D q = by (nat_eq (n % 10) 0) refl lost q
  where
    parts : n ≡ n / 10 * 10 + n % 10
    parts = sym (div-add-mod' n 10)

    by : (b : Bool) → nat_eq (n % 10) 0 ≡ b → (l : Bool) → IsQuotient a d n l → IsQuotient a (d * 10) (n / 10) (l || not b)
    by true h false q =
        divided_evenly a d n 10 (n / 10) false (lit< tt) (omega (arith, parts, eqb-true _ _ h)) q
    by true h true q =
        divided_evenly a d n 10 (n / 10) true (lit< tt) (omega (arith, parts, eqb-true _ _ h)) q
    by false h false q =
        divided a d n 10 (n / 10) (n % 10) false D parts (some h) (mod-lt n (lit< tt)) q
      where
        some : nat_eq (n % 10) 0 ≡ false → 0 < n % 10
        some h = elim (eq-zero-or-pos (n % 10)) [ inl z ↦ absurd (eqb-false _ _ h z) | inr p ↦ p ]
    by false h true q =
        divided a d n 10 (n / 10) (n % 10) true D parts (some h) (mod-lt n (lit< tt)) q
      where
        some : nat_eq (n % 10) 0 ≡ false → 0 < n % 10
        some h = elim (eq-zero-or-pos (n % 10)) [ inl z ↦ absurd (eqb-false _ _ h z) | inr p ↦ p ]

-- both parts over ten
unscaled : (a d n : ℕ) (lost : Bool) → IsQuotient (a * 10) (d * 10) n lost → IsQuotient a d n lost
unscaled a d n false q = omega (arith, q)
unscaled a d n true q = (a - n * d, omega (arith, q.1, q.2), omega (arith, q.1, q.2), omega (arith, q.1, q.3))

-- the same at the next power of ten
pub next_power : (a c first n : ℕ) (lost : Bool) → 0 < c → IsQuotient (2 * (a * 10 ^ (416 - first))) (c * 10 ^ (first - 416)) n lost
    → IsQuotient (2 * (a * 10 ^ (416 - (first + 1)))) (c * 10 ^ (first + 1 - 416)) (n / 10) (lost || not (nat_eq (n % 10) 0))
next_power a c first n lost C q =
    elim (eq-zero-or-pos (416 - first)) [
      | inl z ↦
          let j = first - 416 in
          let e : 416 - (first + 1) ≡ 416 - first = omega arith in
          let f : first + 1 - 416 ≡ suc j = omega arith in
          let g : c * 10 ^ j * 10 ≡ c * 10 ^ suc j = omega (arith, ap (λ t. c * t) (pow-suc 10 j)) in
          rw (e, f, ← g) (tenth (2 * (a * 10 ^ (416 - first))) (c * 10 ^ j) n lost (some j) q)
      | inr p ↦
          let i = 416 - (first + 1) in
          let e : 416 - first ≡ suc i = omega arith in
          let f : first + 1 - 416 ≡ first - 416 = omega arith in
          let g : 2 * (a * 10 ^ suc i) ≡ 2 * (a * 10 ^ i) * 10 = omega (arith, ap (λ t. a * t) (pow-suc 10 i)) in
          let t = tenth (2 * (a * 10 ^ suc i)) (c * 10 ^ (first - 416)) n lost (some (first - 416)) (rw e at q) in
          rw f (unscaled (2 * (a * 10 ^ i)) (c * 10 ^ (first - 416)) (n / 10) (lost || not (nat_eq (n % 10) 0)) (rw g at t))
    ]
  where
    some : (j : ℕ) → 0 < c * 10 ^ j
    some j = mul-pos C (power_pos 10 j (lit< tt))

-- both parts times the same
pub times_both : (a d k n : ℕ) (lost : Bool) → 0 < k → IsQuotient a d n lost → IsQuotient (a * k) (d * k) n lost
times_both a d k n false K q = omega (arith, ap (λ t. t * k) q)
times_both a d k n true K q =
    (q.0 * k, omega (arith, ap (λ t. t * k) q.1), mul-pos q.2 K, mul-lt-mul_of_pos_right q.3 K)
