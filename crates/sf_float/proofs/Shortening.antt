-- The digits of a fraction without zeros at its end.
use Rattle.std.proofs.Common.{◌≡◌, ◌≢◌, ℕ, ◌+◌, ◌-◌, ◌*◌, ◌/◌, ◌%◌, ◌^◌, ◌<◌, ◌≤◌, Bool, true, false, ◌∷◌, ◌++◌, refl, sym, ap, ◌∙◌, arith}
use Rattle.std.proofs.Common.{true≢false, nat_lt, if◌then◌else◌, pow-suc, append_assoc, lt_of_mul-lt-mul_right, le_of_mul-le-mul_right}
use Rattle.std.proofs.Common.{eq-zero-or-pos, inl, inr, lt_of_lt_of_le, add-one, div-add-mod'}
use Rattle.std.proofs.Math.Nat.{div-div-eq-div-mul, div-one, pow-zero, pow-le-pow_right, not-le_of_lt, lt_of_le_of_lt}
use Rattle.std.proofs.lemmas.Nat.{pow-add}
use lib.Dec.{lit<}
use Rattle.ryu.specs.Plain.{text_with, exponent_with}
use Rattle.sf_float.specs.Texts.{fixed_digits, exponent_digits, exponent_size, exponent_text, point_text, scientific, IsCount}
use Rattle.sf_float.specs.General.{IsShortened}
use Rattle.sf_float.proofs.Limbs.{power_pos}

-- one zero more
pub cut_more : (b n z : ℕ) → 0 < b → n ≡ n / b ^ z * b ^ z → n / b ^ z % b ≡ 0 → n ≡ n / b ^ (z + 1) * b ^ (z + 1)
cut_more b n z B h e =
    let q = n / b ^ z in
    let p : b ^ (z + 1) ≡ b ^ z * b = ap (λ t. b ^ t) (add-one z) ∙ pow-suc b z in
    let d : n / b ^ (z + 1) ≡ q / b = ap (λ t. n / t) p ∙ sym (div-div-eq-div-mul n (b ^ z) b) in
    let s : q ≡ q / b * b = sym (div-add-mod' q b) ∙ ap (λ t. q / b * b + t) e ∙ omega arith in
    h ∙ ap (λ t. t * b ^ z) s ∙ regroup (q / b) b (b ^ z) ∙ (λ i. sym d i * sym p i)
  where
    regroup : (x y w : ℕ) → x * y * w ≡ x * (w * y)
    regroup x y w = omega arith

pub uncut : (b n : ℕ) → n ≡ n / b ^ 0 * b ^ 0
uncut b n = rw pow-zero (omega (arith, div-one n))

pub kept_all : (b : ℕ) (all : Bool) (decimals n : ℕ) → all ≡ true → IsShortened b all decimals n (decimals - 0) (n / b ^ 0)
kept_all b all decimals n h =
    let e : decimals - (decimals - 0) ≡ 0 = omega arith in
    record {
      fewer = omega arith;
      same = rw e (uncut b n);
      each = λ _. omega arith;
      needed = λ k. absurd (true≢false (sym h ∙ k));
    }

pub kept_some : (b : ℕ) (all : Bool) (decimals n z : ℕ) → all ≡ false → z ≤ decimals → n ≡ n / b ^ z * b ^ z
    → (z < decimals → n / b ^ z % b ≢ 0)
    → IsShortened b all decimals n (decimals - z) (n / b ^ z)
kept_some b all decimals n z h l c next =
    let e : decimals - (decimals - z) ≡ z = omega arith in
    record {
      fewer = omega arith;
      same = rw e c;
      each = λ k. absurd (true≢false (sym k ∙ h));
      needed = λ _ p. next (omega arith);
    }

-- the digits before the point stay
pub same_whole : (b n decimals z : ℕ) → z ≤ decimals → n / b ^ z / b ^ (decimals - z) ≡ n / b ^ decimals
same_whole b n decimals z h =
    let e : z + (decimals - z) ≡ decimals = omega arith in
    div-div-eq-div-mul n (b ^ z) (b ^ (decimals - z)) ∙ ap (λ t. n / t) (sym (pow-add b z (decimals - z)) ∙ ap (λ t. b ^ t) e)

module _ (all : Bool) (decimals n kept m count : ℕ) (s : IsShortened 10 all decimals n kept m) (c : IsCount decimals n count) where
  some : 0 < 10 ^ (decimals - kept)
  some = power_pos 10 (decimals - kept) (lit< tt)

  joined : (k : ℕ) → 10 ^ (k + decimals) ≡ 10 ^ (k + kept) * 10 ^ (decimals - kept)
  joined k =
      let less : kept ≤ decimals = s.fewer in
      let e : k + decimals ≡ k + kept + (decimals - kept) = omega arith in
      ap (λ t. 10 ^ t) e ∙ pow-add 10 (k + kept) (decimals - kept)

  pub same_count : IsCount kept m count
  same_count =
      record {
        some = c.some;
        fits = lt_of_mul-lt-mul_right (10 ^ (decimals - kept)) (omega (arith, s.same, joined count, c.fits));
        least = λ l. le_of_mul-le-mul_right {k = 10 ^ (decimals - kept)} (omega (arith, s.same, joined (count - 1), c.least l)) some;
      }

-- a number below 10 ^ most has no more digits before the point
pub few_count : (d n count most : ℕ) → 0 < most → IsCount d n count → n < 10 ^ most → count ≤ most
few_count d n count most M c h =
    elim (eq-zero-or-pos (count - most)) [
      | inl z ↦ omega arith
      | inr p ↦
          let k : most ≤ count - 1 + d = omega arith in
          absurd (not-le_of_lt (lt_of_le_of_lt (c.least (omega arith)) h) (pow-le-pow_right {n = 10} (lit< tt) k))
    ]

pub below_power : (n k : ℕ) → n < 10 ^ 256 → 256 ≤ k → n < 10 ^ k
below_power n k h l = lt_of_lt_of_le h (pow-le-pow_right (lit< tt) l)

-- ---- texts

exponent_is : (power : ℕ) → exponent_text power ≡ exponent_with true (nat_lt power 400) (exponent_digits (exponent_size power))
exponent_is power = go (nat_lt power 400) (nat_lt (exponent_size power) 100)
  where
    go : (b l : Bool) → 101 ∷ (if b then 45 else 43) ∷ (if l then fixed_digits 2 (exponent_size power) else fixed_digits 3
        (exponent_size power))
        ≡ exponent_with true b (if l then fixed_digits 2 (exponent_size power) else fixed_digits 3 (exponent_size power))
    go true true = refl
    go true false = refl
    go false true = refl
    go false false = refl

pub raised_text : (alt : Bool) (kept m power : ℕ) → (fixed_digits 1 (m / 10 ^ kept) ++ point_text alt kept m) ++ exponent_text power
    ≡ text_with true (scientific alt kept m power)
raised_text alt kept m power =
    append_assoc (fixed_digits 1 (m / 10 ^ kept)) (point_text alt kept m) (exponent_text power)
    ∙ ap (λ t. fixed_digits 1 (m / 10 ^ kept) ++ (point_text alt kept m ++ t)) (exponent_is power)
