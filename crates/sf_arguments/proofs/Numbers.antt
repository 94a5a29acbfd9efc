-- What the number is that `parse` reads of a word.
use Rattle.std.proofs.Common.{◌≡◌, ◌≢◌, ℕ, zero, suc, ◌+◌, ◌-◌, ◌*◌, ◌<◌, ◌≤◌, ◌^◌, ℤ, pos, neg_ℤ, Bool, true, false, cond, nat_eq, nat_le}
use Rattle.std.proofs.Common.{◌&&◌, List, [], ◌∷◌, ◌++◌, length, drop, get_or, Result, Ok, Err, Option, Some, None, IfSome, IfNone, arith}
use Rattle.std.proofs.Common.{inl, inr, refl, sym, ap, subst, ◌∙◌}
use Rattle.std.proofs.lemmas.Bool.Decides.{nat_tests}
use Rattle.std.proofs.lemmas.Str.{digit_value_digit}
use Rattle.std.proofs.lemmas.Str.Parse.{IsDigitsTest, WeighsDigits, IsNumeralModel, numerals_by_weight, parse_signed_minus}
use Rattle.std.proofs.lemmas.Str.Parse.{parse_signed_plus, parse_signed_plain, parse_signed_digits}
use Rattle.std.specs.Char.{digit_value}
use Rattle.std.specs.Int.{IsInRange, Width}
use Rattle.std.specs.Int.RustNames.{FitsSigned}
use Rattle.std.specs.List.{AllByRecursion}
use Rattle.std.specs.Result.{result_ok}
use Rattle.std.specs.Str.Parse.{ParsesSigned, digits_value, signed_digits_value}
use mir.Val.{hbits}
use Rattle.sf_base.specs.Bytes.{magnitude}
use Rattle.sf_format.specs.Digits.{is_decimal}
use Rattle.sf_format.proofs.Outcomes.{by_test, and_left, and_right}
use Rattle.sf_print.specs.texts.Text.{with_sign}
use Rattle.sf_arguments.specs.Words.{IsSign, Denotes}

abbrev AreDecimal : List ℕ → Type 0
AreDecimal ds = AllByRecursion (λ b. is_decimal b ≡ true) ds

in_range : (b : ℕ) → is_decimal b ≡ true → IsInRange 48 57 b
in_range b e =
    let low = and_left (nat_le 48 b) (nat_le b 57) e in
    let high = and_right (nat_le 48 b) (nat_le b 57) e in
    (grind (arith, nat_tests), grind (arith, nat_tests))

is_digit : (b : ℕ) → IsInRange 48 57 b → is_decimal b ≡ true
is_digit b h =
    let low : nat_le 48 b ≡ true = grind (arith, nat_tests, h.0) in
    let high : nat_le b 57 ≡ true = grind (arith, nat_tests, h.1) in
    ap (λ t. t && nat_le b 57) low ∙ high

tests : IsDigitsTest AreDecimal
tests = record {
  empty = tt;
  parts = λ c cs h. (in_range c h.0, h.1);
  more = λ c cs k h. (is_digit c k, h);
}

weighs : WeighsDigits (magnitude 10)
weighs = record {
  empty = refl;
  more = λ c cs k. let e : digit_value c ≡ c - 48 = omega (arith, digit_value_digit c k) in
      ap (λ d. d * 10 ^ length cs + magnitude 10 cs) e;
}

own : IsNumeralModel AreDecimal (magnitude 10)
own = numerals_by_weight AreDecimal tests (magnitude 10) weighs

first_is : (bs : List ℕ) (c : ℕ) → 0 < c → get_or bs 0 0 ≡ c → bs ≡ c ∷ drop 1 bs
first_is [] c some e = absurd (omega arith)
first_is (b ∷ bs) c some e = ap (λ x. x ∷ bs) e

fits_negative : (w : Width) (n : ℕ) → FitsSigned w (neg_ℤ (pos n)) → n ≤ 2 ^ hbits w
fits_negative w zero h = omega arith
fits_negative w (suc n) h = h.sfits

module _ (E : Type 0) (w : Width) where
  -- what is read is denoted
  number_is : (bs : List ℕ) (z : ℤ) → ParsesSigned {E = E} w 10 bs (Ok z) → Denotes bs z
  number_is bs z h =
      by_test (nat_eq (get_or bs 0 0) 45) (λ _. Denotes bs z)
      (λ minus. let e : get_or bs 0 0 ≡ 45 = grind (arith, nat_tests) in
      let p = parse_signed_minus own {E = E} w bs (Ok z) h e in
      record {
        negative = true;
        sign = 45 ∷ [];
        ds = drop 1 bs;
        parts = first_is bs 45 (omega arith) e;
        signed = refl;
        some = p.0.1;
        decimal = p.0.0;
        number = p.1;
      })
      (λ no_minus. let n : get_or bs 0 0 ≢ 45 = λ e. absurd (grind (arith, nat_tests)) in
      by_test (nat_eq (get_or bs 0 0) 43) (λ _. Denotes bs z)
      (λ plus. let e : get_or bs 0 0 ≡ 43 = grind (arith, nat_tests) in
      let p = parse_signed_plus own {E = E} w bs (Ok z) h e in
      record {
        negative = false;
        sign = 43 ∷ [];
        ds = drop 1 bs;
        parts = first_is bs 43 (omega arith) e;
        signed = inr refl;
        some = p.0.1;
        decimal = p.0.0;
        number = p.1;
      })
      (λ no_plus. let m : get_or bs 0 0 ≢ 43 = λ e. absurd (grind (arith, nat_tests)) in
      let p = parse_signed_plain own {E = E} w bs (Ok z) h m n in
      record { negative = false; sign = []; ds = bs; parts = refl; signed = inl refl; some = p.0.1; decimal = p.0.0; number = p.1 }))

  no_number_by : (negative : Bool) (sign ds : List ℕ) (e : E) → IsSign negative sign → ParsesSigned w 10 (sign ++ ds) (Err e)
      → AreDecimal ds → 0 < length ds
      → FitsSigned w (with_sign negative (magnitude 10 ds)) → ⊥
  no_number_by true sign ds e is h p some fits =
      parse_signed_minus own w (45 ∷ ds) (Err e) (subst (λ s. ParsesSigned w 10 (s ++ ds) (Err e)) is h) refl
      (p, some, fits_negative w (magnitude 10 ds) fits)
  no_number_by false sign ds e (inl is) h p some fits =
      parse_signed_digits own w ds (Err e) (subst (λ s. ParsesSigned w 10 (s ++ ds) (Err e)) is h) p (some, fits.sfits)
  no_number_by false sign ds e (inr is) h p some fits =
      parse_signed_plus own w (43 ∷ ds) (Err e) (subst (λ s. ParsesSigned w 10 (s ++ ds) (Err e)) is h) refl (p, some, fits.sfits)

  -- what is not read is no number that the type holds
  no_number : (bs : List ℕ) (e : E) → ParsesSigned w 10 bs (Err e) → (z : ℤ) → Denotes bs z → FitsSigned w z → ⊥
  no_number bs e h z d fits =
      no_number_by d.negative d.sign d.ds e d.signed (subst (λ b. ParsesSigned w 10 b (Err e)) d.parts h) d.decimal d.some
      (subst (FitsSigned w) d.number fits)

  pub read_some : (bs : List ℕ) (r : Result ℤ E) (o : Option ℤ) → o ≡ result_ok r → ParsesSigned w 10 bs r → IfSome o (λ z. Denotes bs z)
  read_some bs (Ok z) None is h = tt
  read_some bs (Err e) None is h = tt
  read_some bs (Ok z) (Some y) is h = let same : y ≡ z = cc in subst (Denotes bs) (sym same) (number_is bs z h)
  read_some bs (Err e) (Some y) is h = absurd (cc)

  pub read_none : (bs : List ℕ) (r : Result ℤ E) (o : Option ℤ) → o ≡ result_ok r → ParsesSigned w 10 bs r
      → IfNone o ((z : ℤ) → Denotes bs z → FitsSigned w z → ⊥)
  read_none bs (Ok z) None is h = absurd (cc)
  read_none bs (Err e) None is h = no_number bs e h
  read_none bs r (Some y) is h = tt

-- ---- a word denotes one number

plain_value : (ds : List ℕ) → AreDecimal ds → 0 < length ds → signed_digits_value 10 ds ≡ pos (digits_value 10 ds)
plain_value [] h some = absurd (omega arith)
plain_value (c ∷ cs) h some =
    let k = in_range c h.0 in
    let no_minus : nat_eq c 45 ≡ false = by_test (nat_eq c 45) (λ v. v ≡ false)
    (λ e. let is : c ≡ 45 = grind (arith, nat_tests) in absurd (omega arith)) (λ e. refl) in
    let no_plus : nat_eq c 43 ≡ false = by_test (nat_eq c 43) (λ v. v ≡ false)
    (λ e. let is : c ≡ 43 = grind (arith, nat_tests) in absurd (omega arith)) (λ e. refl) in
    ap (λ t. let ds : List ℕ = cond t cs (drop (cond (nat_eq c 43) 1 0) (c ∷ cs)) in
    cond t (neg_ℤ (pos (digits_value 10 ds))) (pos (digits_value 10 ds))) no_minus
    ∙ ap (λ t. pos (digits_value 10 (drop (cond t 1 0) (c ∷ cs)))) no_plus

denoted_by : (negative : Bool) (sign ds : List ℕ) → IsSign negative sign → AreDecimal ds → 0 < length ds
    → with_sign negative (magnitude 10 ds) ≡ signed_digits_value 10 (sign ++ ds)
denoted_by true sign ds is h some = ap (λ n. neg_ℤ (pos n)) (own.same ds (own.to ds h))
    ∙ ap (λ s. signed_digits_value 10 (s ++ ds)) (sym is)
denoted_by false sign ds (inl is) h some = ap pos (own.same ds (own.to ds h)) ∙ sym (plain_value ds h some)
    ∙ ap (λ s. signed_digits_value 10 (s ++ ds)) (sym is)
denoted_by false sign ds (inr is) h some = ap pos (own.same ds (own.to ds h)) ∙ ap (λ s. signed_digits_value 10 (s ++ ds)) (sym is)

denoted_is : (word : List ℕ) (z : ℤ) → Denotes word z → z ≡ signed_digits_value 10 word
denoted_is word z d = d.number ∙ denoted_by d.negative d.sign d.ds d.signed d.decimal d.some ∙ ap (signed_digits_value 10) (sym d.parts)

pub one_number : (word : List ℕ) (y z : ℤ) → Denotes word y → Denotes word z → y ≡ z
one_number word y z d e = denoted_is word y d ∙ sym (denoted_is word z e)
