-- The digits of a number are the only numeral of it without a needless zero.
use Rattle.std.proofs.Common.{◌≡◌, ℕ, ◌+◌, ◌*◌, ◌/◌, ◌%◌, ◌^◌, ◌≤◌, ◌<◌, Bool, List, [], ◌∷◌, ◌++◌, length, sym, ap, ◌∙◌, arith}
use Rattle.std.proofs.Common.{append_assoc, append-nil, inl, inr, eq-zero-or-pos}
use Rattle.std.proofs.lemmas.Nat.{div-mul-add, mod-mul-add}
use Rattle.std.proofs.Math.Nat.{le-mul_of_pos_right}
use Rattle.std.specs.Char.{digit_value}
use Rattle.std.specs.Fmt.{digits, digit_glyph}
use Rattle.std.specs.Str.Parse.{AllDigits, digits_value_after}
use Rattle.sf_print.specs.digits.Numeral.{IsInCase, OnlyNumeral}
use Rattle.sf_print.proofs.DigitLemmas.Digits.{digits_one, digits_step}

value_grows : (base n : ℕ) (ds : List ℕ) → 1 ≤ base → n ≤ digits_value_after base n ds
value_grows base n [] low = omega arith
value_grows base n (c ∷ cs) low = let more : n ≤ n * base = le-mul_of_pos_right n low in
    omega (arith, value_grows base (n * base + digit_value c) cs low)

digits_after : (base : ℕ) (upper : Bool) (n : ℕ) (ds : List ℕ) → 2 ≤ base → 0 < n → AllDigits base ds → IsInCase upper ds
    → digits_value_after base n ds < 2 ^ 64 → digits base upper (digits_value_after base n ds) ≡ digits base upper n ++ ds
digits_after base upper n [] low some d k small = sym (append-nil (digits base upper n))
digits_after base upper n (c ∷ cs) low some d k small =
    let m : ℕ = n * base + digit_value c in
    let large : base ≤ base * n = le-mul_of_pos_right base some in
    let front : m / base ≡ n = div-mul-add n base (digit_value c) d.0 in
    let last : m % base ≡ digit_value c = mod-mul-add n base (digit_value c) d.0 in
    let glyph : digit_glyph upper (m % base) ≡ c = ap (digit_glyph upper) last ∙ sym k.0 in
    digits_after base upper m cs low (omega arith) d.1 k.1 small
    ∙ ap (λ (xs : List ℕ). xs ++ cs) (digits_step base upper m low (omega arith) (omega (arith, value_grows base m cs (omega arith)))
    ∙ (λ t. digits base upper (front t) ++ (glyph t ∷ [])))
    ∙ append_assoc (digits base upper n) (c ∷ []) cs

pub only_numeral : OnlyNumeral
only_numeral base upper number [] low high small is = absurd (omega (arith, is.numeral.0))
only_numeral base upper number (c ∷ []) low high small is =
    let n : ℕ = 0 * base + digit_value c in
    let v : n ≡ digit_value c = omega arith in
    let e : n ≡ number = is.value in
    ap (λ (x : ℕ). x ∷ []) is.in_case.0 ∙ sym (ap (digits base upper) (sym e) ∙ digits_one base upper n low (omega (arith, is.numeral.1.0))
    ∙ ap (λ (d : ℕ). digit_glyph upper d ∷ []) v)
only_numeral base upper number (c ∷ e ∷ cs) low high small is =
    let n : ℕ = 0 * base + digit_value c in
    let v : n ≡ digit_value c = omega arith in
    let some : 0 < n = elim (eq-zero-or-pos n) [
      | inl z ↦ let d : digit_value c ≡ 0 = omega arith in absurd (let two : length (c ∷ e ∷ cs) ≡ 1 =
          is.shortest (is.in_case.0 ∙ ap (digit_glyph upper) d) in omega arith)
      | inr p ↦ p
    ] in
    let rest = digits_after base upper n (e ∷ cs) low some is.numeral.1.1 is.in_case.1 (omega (arith, is.value)) in
    let one = digits_one base upper n low (omega (arith, is.numeral.1.0)) ∙ ap (λ (d : ℕ). digit_glyph upper d ∷ []) v in
    (λ t. is.in_case.0 t ∷ e ∷ cs) ∙ ap (λ (xs : List ℕ). xs ++ (e ∷ cs)) (sym one) ∙ sym rest ∙ ap (digits base upper) is.value
