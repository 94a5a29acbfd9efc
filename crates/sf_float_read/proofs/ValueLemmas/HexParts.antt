-- What is read of a hexadecimal numeral is what its parts say.
use Rattle.std.proofs.Common.{◌≡◌, ◌⊎◌, ℕ, suc, ◌+◌, ◌*◌, ◌^◌, ◌<◌, Bool, true, false, ◌||◌, List, [], ◌∷◌, ◌++◌, ◌-◌, length, take, drop}
use Rattle.std.proofs.Common.{slice_index, if◌then◌else◌, refl, sym, ap, ◌∙◌, subst, inl, inr, arith, length-drop}
use Rattle.std.specs.Prelude.{◌==◌}
use Rattle.std.proofs.Math.Seq.{take-length}
use Rattle.std.specs.Float.Ieee.{Float, Format, round}
use borrow.Author.Tests.{ne_eqb}
use Rattle.std.specs.Char.{digit_value}
use Rattle.std.specs.Str.Parse.{digits_value, digits_value_after}
use Rattle.sf_float_read.specs.declared.item.reached.Radix.TheVariants.{Ten, Sixteen}
use Rattle.sf_float_read.specs.item.Sequences.{opens_exponent}
use Rattle.sf_float_read.specs.item.Parts.{AreDigits, IsSign, IsExponent, IsNumeral}
use Rattle.sf_float_read.proofs.ItemLemmas.Apart.{either}
use Rattle.sf_float_read.specs.value.Values.{is_minus, raised_by, lowered_by, IsHexValue}
use Rattle.sf_float_read.specs.value.Hexadecimals.{digits_read, exponent_read}
use Rattle.sf_float_read.proofs.ValueLemmas.Fronts.{digit_from}

-- ---- digits

abbrev counted : Bool → ℕ → ℕ → ℕ
counted true p n = p + n
counted false p n = p

one_more : (after : Bool) (p n : ℕ) → counted after (if after then suc p else p) n ≡ counted after p (suc n)
one_more true p n = omega arith
one_more false p n = refl

none : (after : Bool) (p : ℕ) → p ≡ counted after p 0
none true p = omega arith
none false p = refl

read_digits : (ds rest : List ℕ) (v p : ℕ) (after : Bool) → AreDigits Sixteen ds
    → digits_read v p after (ds ++ rest) ≡ digits_read (digits_value_after 16 v ds) (counted after p (length ds)) after rest
read_digits [] rest v p after h = ap (λ k. digits_read v k after rest) (none after p)
read_digits (b ∷ t) rest v p after h =
    ap (λ k. if k then digits_read (v * 16 + digit_value b) (if after then suc p else p) after (t ++ rest) else
    (if b == 46 then digits_read v p true (t ++ rest) else (v, p, b ∷ (t ++ rest)))) h.0
    ∙ read_digits t rest (v * 16 + digit_value b) (if after then suc p else p) after h.1
    ∙ ap (λ k. digits_read (digits_value_after 16 (v * 16 + digit_value b) t) k after rest) (one_more after p (length t))

value_join : (ds es : List ℕ) (v : ℕ) → digits_value_after 16 (digits_value_after 16 v ds) es ≡ digits_value_after 16 v (ds ++ es)
value_join [] es v = refl
value_join (b ∷ t) es v = value_join t es (v * 16 + digit_value b)

-- ---- what follows them

letter_ends : (letter : ℕ) (t : List ℕ) (v p : ℕ) (after : Bool) → opens_exponent Sixteen letter ≡ true
    → digits_read v p after (letter ∷ t) ≡ (v, p, letter ∷ t)
letter_ends letter t v p after h =
    elim (either 112 80 letter h) [
      | inl e ↦ subst (λ k. digits_read v p after (k ∷ t) ≡ (v, p, k ∷ t)) (sym e) refl
      | inr e ↦ subst (λ k. digits_read v p after (k ∷ t) ≡ (v, p, k ∷ t)) (sym e) refl
    ]

read_end : (e : List ℕ) (v p : ℕ) (after : Bool) → ((e ≡ []) ⊎ IsExponent Sixteen e) → digits_read v p after e ≡ (v, p, e)
read_end e v p after (inl z) = subst (λ k. digits_read v p after k ≡ (v, p, k)) (sym z) refl
read_end e v p after (inr x) = subst (λ k. digits_read v p after k ≡ (v, p, k)) (sym x.joined)
    (letter_ends x.letter (x.sign ++ x.digits) v p after x.opens)

read_rest : (point fraction e : List ℕ) (v : ℕ) → ((point ≡ []) × (fraction ≡ []) ⊎ (point ≡ 46 ∷ [])) → AreDigits Sixteen fraction
    → ((e ≡ []) ⊎ IsExponent Sixteen e)
    → digits_read v 0 false (point ++ (fraction ++ e)) ≡ (digits_value_after 16 v fraction, length fraction, e)
read_rest point fraction e v (inl z) d x =
    (λ i. digits_read v 0 false (z.0 i ++ (z.1 i ++ e))) ∙ read_end e v 0 false x
    ∙ (λ i. (digits_value_after 16 v (sym z.1 i), length (sym z.1 i), e))
read_rest point fraction e v (inr z) d x =
    ap (λ k. digits_read v 0 false (k ++ (fraction ++ e))) z
    ∙ read_digits fraction e v 0 true d
    ∙ read_end e (digits_value_after 16 v fraction) (0 + length fraction) true x
    ∙ ap (λ k. (digits_value_after 16 v fraction, k, e)) no_more
  where
    no_more : 0 + length fraction ≡ length fraction
    no_more = omega arith

pub read_parts : (t : List ℕ) (n : IsNumeral Sixteen t) → digits_read 0 0 false t
    ≡ (digits_value 16 (n.whole ++ n.fraction), length n.fraction, n.exponent)
read_parts t n =
    ap (digits_read 0 0 false) n.joined
    ∙ read_digits n.whole (n.point ++ (n.fraction ++ n.exponent)) 0 0 false n.whole_digits
    ∙ read_rest n.point n.fraction n.exponent (digits_value 16 n.whole) n.pointed n.fraction_digits n.raised
    ∙ ap (λ k. (k, length n.fraction, n.exponent)) (value_join n.whole n.fraction 0)

-- ---- the exponent

no_sign : (ds : List ℕ) → 0 < length ds → AreDigits Ten ds → (slice_index ds 0 == 45 ≡ false) × (slice_index ds 0 == 43 ≡ false)
no_sign [] l h = absurd (omega arith)
no_sign (b ∷ t) l h = let k = digit_from b h.0 in (ne_eqb b 45 (omega (arith, k)), ne_eqb b 43 (omega (arith, k)))

after_letter : (letter : ℕ) (sign ds : List ℕ) → IsSign sign → 0 < length ds → AreDigits Ten ds
    → exponent_read (letter ∷ (sign ++ ds)) ≡ (is_minus sign, digits_value 10 ds)
after_letter letter sign ds (inl z) l h =
    let k = no_sign ds l h in
    ap (λ s. exponent_read (letter ∷ (s ++ ds))) z
    ∙ (λ i. (k.0 i, digits_value 10 (drop (if k.0 i || k.1 i then 1 else 0) ds)))
    ∙ ap (λ s. (is_minus s, digits_value 10 ds)) (sym z)
after_letter letter sign ds (inr (inl z)) l h = ap (λ s. exponent_read (letter ∷ (s ++ ds))) z
    ∙ ap (λ s. (is_minus s, digits_value 10 ds)) (sym z)
after_letter letter sign ds (inr (inr z)) l h = ap (λ s. exponent_read (letter ∷ (s ++ ds))) z
    ∙ ap (λ s. (is_minus s, digits_value 10 ds)) (sym z)

pub up_by : (e : List ℕ) (r : (e ≡ []) ⊎ IsExponent Sixteen e) → raised_by e r ≡ (if (exponent_read e).0 then 0 else (exponent_read e).1)
up_by e (inl z) = subst (λ t. 0 ≡ (if (exponent_read t).0 then 0 else (exponent_read t).1)) (sym z) refl
up_by e (inr x) =
    let p = ap exponent_read x.joined ∙ after_letter x.letter x.sign x.digits x.signed x.some x.all in
    ap (λ q. if q.0 then 0 else q.1) (sym p)

pub down_by : (e : List ℕ) (r : (e ≡ []) ⊎ IsExponent Sixteen e) → lowered_by e r ≡ (if (exponent_read e).0 then (exponent_read e).1 else 0)
down_by e (inl z) = subst (λ t. 0 ≡ (if (exponent_read t).0 then (exponent_read t).1 else 0)) (sym z) refl
down_by e (inr x) =
    let p = ap exponent_read x.joined ∙ after_letter x.letter x.sign x.digits x.signed x.some x.all in
    ap (λ q. if q.0 then q.1 else 0) (sym p)

-- ---- the value of the parts

pub whole_drop : (t : List ℕ) (at : ℕ) → take (length t - at) (drop at t) ≡ drop at t
whole_drop t at = ap (λ k. take k (drop at t)) (sym (length-drop at t)) ∙ take-length (drop at t)

module _ (f : Format) (t s : List ℕ) (n : IsNumeral Sixteen t) (v p : ℕ) (read : digits_read 0 0 false t ≡ (v, p, s)) where
  same : ◌≡◌ {A = ℕ × ℕ × List ℕ} (digits_value 16 (n.whole ++ n.fraction), length n.fraction, n.exponent) (v, p, s)
  same = sym (read_parts t n) ∙ read

  pub exponent_rest : n.exponent ≡ s
  exponent_rest = ap (λ x. x.2) same

  pub of_raised : (x : Float) → (exponent_read s).0 ≡ false → x ≡ round f false (v * 2 ^ (exponent_read s).1) (2 ^ (4 * p))
      → IsHexValue f false t x
  of_raised x minus h =
      let up = up_by n.exponent n.raised ∙ ap (λ e. if (exponent_read e).0 then 0 else (exponent_read e).1) exponent_rest
      ∙ ap (λ b. if b then 0 else (exponent_read s).1) minus in
      let down = down_by n.exponent n.raised ∙ ap (λ e. if (exponent_read e).0 then (exponent_read e).1 else 0) exponent_rest
      ∙ ap (λ b. if b then (exponent_read s).1 else 0) minus in
      let none : 4 * p ≡ 4 * p + 0 = omega arith in (
        n,
        h ∙ ap (λ k. round f false (v * 2 ^ (exponent_read s).1) (2 ^ k)) none
            ∙ (λ i. round f false ((sym same i).0 * 2 ^ sym up i) (2 ^ (4 * (sym same i).1 + sym down i))),
      )

  pub of_lowered : (x : Float) → (exponent_read s).0 ≡ true → x ≡ round f false (v * 2 ^ 0) (2 ^ (4 * p + (exponent_read s).1))
      → IsHexValue f false t x
  of_lowered x minus h =
      let up = up_by n.exponent n.raised ∙ ap (λ e. if (exponent_read e).0 then 0 else (exponent_read e).1) exponent_rest
      ∙ ap (λ b. if b then 0 else (exponent_read s).1) minus in
      let down = down_by n.exponent n.raised ∙ ap (λ e. if (exponent_read e).0 then (exponent_read e).1 else 0) exponent_rest
      ∙ ap (λ b. if b then (exponent_read s).1 else 0) minus in
      (n, h ∙ (λ i. round f false ((sym same i).0 * 2 ^ sym up i) (2 ^ (4 * (sym same i).1 + sym down i))))
