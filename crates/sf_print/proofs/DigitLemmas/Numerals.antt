-- The digits of a number are a numeral of it without needless zeros.
use Rattle.std.proofs.Common.{◌≡◌, ℕ, zero, suc, ◌-◌, ◌*◌, ◌/◌, ◌%◌, ◌^◌, ◌<◌, ◌≤◌, Bool, true, false, ◌&&◌, T, eqb, eqb→eq, List, [], ◌∷◌}
use Rattle.std.proofs.Common.{◌++◌, length, slice_index, subst, refl, sym, ap, ◌∙◌, inl, inr, arith, eq-zero-or-pos}
use Rattle.std.proofs.Math.Nat.{div-lt_iff_lt-mul, div-le_self, mod-lt, pow-suc, pow-zero, pow-le-pow_left}
use Rattle.std.specs.Char.{digit_value}
use Rattle.std.specs.Fmt.{digits, digit_glyph}
use Rattle.std.specs.List.{AllByRecursion}
use lib.Ieee.Fits.{and_l, and_r}
use Rattle.sf_print.specs.digits.Numeral.{IsInCase, AreNumerals}
use Rattle.sf_print.proofs.DigitLemmas.Digits.{digits_one, digits_step, numeral_of, length_some}

-- a glyph stands for its digit
abbrev glyphs_hold : Bool → ℕ → Bool
glyphs_hold upper zero = true
glyphs_hold upper (suc d) = eqb (digit_value (digit_glyph upper d)) d && glyphs_hold upper d

below : (upper : Bool) (n d : ℕ) → T (glyphs_hold upper n) → d < n → digit_value (digit_glyph upper d) ≡ d
below upper zero d t h = absurd (omega arith)
below upper (suc n) d t h =
    elim (eq-zero-or-pos (n - d)) [
      | inl z ↦ let e : d ≡ n = omega arith in rw e (eqb→eq _ _ (and_l _ (glyphs_hold upper n) t))
      | inr g ↦ below upper n d (and_r _ (glyphs_hold upper n) t) (omega arith)
    ]

glyph_value : (upper : Bool) (d : ℕ) → d < 16 → digit_value (digit_glyph upper d) ≡ d
glyph_value true d small = below true 16 d tt small
glyph_value false d small = below false 16 d tt small

glyph_in_case : (upper : Bool) (d : ℕ) → d < 16 → IsInCase upper (digit_glyph upper d ∷ [])
glyph_in_case upper d small = (ap (digit_glyph upper) (sym (glyph_value upper d small)), tt)

all_joined : (P : ℕ → Type 0) (xs ys : List ℕ) → AllByRecursion P xs → AllByRecursion P ys → AllByRecursion P (xs ++ ys)
all_joined P [] ys p q = q
all_joined P (x ∷ xs) ys p q = (p.0, all_joined P xs ys p.1 q)

first_joined : (xs ys : List ℕ) → 0 < length xs → slice_index (xs ++ ys) 0 ≡ slice_index xs 0
first_joined [] ys h = absurd (omega arith)
first_joined (x ∷ xs) ys h = refl

small_one : (base n : ℕ) → 2 ≤ base → n / base ≡ 0 → n < base
small_one base n low z = let pos : 0 < base = omega arith in let h : n < 1 * base = (div-lt_iff_lt-mul pos).0 (omega arith) in omega arith

large_one : (base n : ℕ) → 2 ≤ base → 0 < n / base → base ≤ n
large_one base n low p =
    let pos : 0 < base = omega arith in
    elim (eq-zero-or-pos (base - n)) [
      | inl z ↦ omega arith
      | inr h ↦ absurd
          (let q : n / base < 1 = (div-lt_iff_lt-mul pos).1 (omega arith) in omega arith)
    ]

last_digit : (base n : ℕ) → 2 ≤ base → base ≤ 16 → n % base < 16
last_digit base n low high = let h : n % base < base = mod-lt n (omega arith) in omega arith

smaller : (base n k : ℕ) → 2 ≤ base → n < base ^ suc k → n / base < base ^ k
smaller base n k low fits = let pos : 0 < base = omega arith in (div-lt_iff_lt-mul pos).1 (omega (arith, pow-suc base k))

in_one_case : (base : ℕ) (upper : Bool) (k n : ℕ) → 2 ≤ base → base ≤ 16 → n < 2 ^ 64 → n < base ^ k → IsInCase upper (digits base upper n)
in_one_case base upper zero n low high u64 fits =
    let e : n ≡ 0 = omega (arith, pow-zero base) in
    subst (IsInCase upper) (sym (digits_one base upper n low (omega arith))) (glyph_in_case upper n (omega arith))
in_one_case base upper (suc k) n low high u64 fits =
    elim (eq-zero-or-pos (n / base)) [
      | inl z ↦ let h = small_one base n low z in subst (IsInCase upper) (sym (digits_one base upper n low h))
          (glyph_in_case upper n (omega arith))
      | inr p ↦
          let h = large_one base n low p in
          let less : n / base ≤ n = div-le_self n base in
          subst (IsInCase upper) (sym (digits_step base upper n low h u64))
          (all_joined (λ c. c ≡ digit_glyph upper (digit_value c)) (digits base upper (n / base)) (digit_glyph upper (n % base) ∷ [])
          (in_one_case base upper k (n / base) low high (omega arith) (smaller base n k low fits))
          (glyph_in_case upper (n % base) (last_digit base n low high)))
    ]

no_zero_first : (base : ℕ) (upper : Bool) (k n : ℕ) → 2 ≤ base → base ≤ 16 → n < 2 ^ 64 → n < base ^ k → 0 < n
    → slice_index (digits base upper n) 0 ≡ 48 → ⊥
no_zero_first base upper zero n low high u64 fits some e = omega (arith, pow-zero base)
no_zero_first base upper (suc k) n low high u64 fits some e =
    elim (eq-zero-or-pos (n / base)) [
      | inl z ↦
          let h = small_one base n low z in
          let first : digit_glyph upper n ≡ 48 = sym (ap (λ ds. slice_index ds 0) (digits_one base upper n low h)) ∙ e in
          let v : n ≡ 0 = sym (glyph_value upper n (omega arith)) ∙ ap digit_value first in
          omega arith
      | inr p ↦
          let h = large_one base n low p in
          let less : n / base ≤ n = div-le_self n base in
          no_zero_first base upper k (n / base) low high (omega arith) (smaller base n k low fits) p
          (sym (first_joined (digits base upper (n / base)) (digit_glyph upper (n % base) ∷ [])
          (length_some base upper (n / base) low high (omega arith)))
          ∙ sym (ap (λ ds. slice_index ds 0) (digits_step base upper n low h u64)) ∙ e)
    ]

pub are_numerals : AreNumerals
are_numerals base upper number low high small =
    let fits : number < base ^ 64 = omega (arith, pow-le-pow_left low 64) in
    let n = numeral_of base upper number low high small in
    record {
      numeral = n.0;
      value = n.1;
      in_case = in_one_case base upper 64 number low high small fits;
      shortest = λ e. elim (eq-zero-or-pos number) [
        | inl z ↦ ap length (digits_one base upper number low (omega arith))
        | inr p ↦ absurd (no_zero_first base upper 64 number low high small fits p e)
      ];
    }
