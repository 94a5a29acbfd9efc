-- A decimal numeral of few digits at the front of a piece is found there.
use Rattle.std.proofs.Common.{◌≡◌, ◌≢◌, ℕ, zero, suc, ◌+◌, ◌-◌, ◌<◌, ◌≤◌, Bool, true, false, true≢false, List, [], ◌∷◌, ◌++◌, append_assoc}
use Rattle.std.proofs.Common.{get_or, length, take, drop, Some, is_some, refl, sym, ap, subst, ◌∙◌, arith, IsFalse}
use Rattle.std.proofs.lemmas.Bool.Decides.{nat_tests}
use Rattle.std.proofs.lemmas.List.{take_more, drop_more, take-append-drop, length-append}
use Rattle.std.proofs.Math.Seq.{get_or-append_seam, drop-append-add}
use Rattle.std.specs.Char.{digit_value, is_ascii_digit}
use Rattle.std.specs.Fmt.{sign_text}
use Rattle.std.specs.Str.Parse.{AllDigits}
use Rattle.sf_float_read.specs.declared.item.decimal.Decimal.{Decimal}
use Rattle.sf_float_read.specs.declared.item.reached.Radix.TheVariants.{Ten}
use Rattle.sf_float_read.specs.declared.item.reached.Reached.TheVariants as at
use Rattle.sf_float_read.specs.item.Decimals.{DecimalWithin}
use Rattle.sf_float_read.specs.item.Tests.{next, read, begins_float}
use Rattle.sf_float_read.proofs.ItemLemmas.Deciding.{read_more}
use Rattle.sf_float_read.proofs.ItemLemmas.Decimals.{is_digit, numeral_read}

-- ---- digits at the front of bytes

-- those that were taken are all before the first other byte
digits_end : (ds t : List ℕ) (b n most : ℕ) → AllDigits 10 ds → is_ascii_digit b ≡ false → length ds ≤ most → n ≤ most
    → n ≤ length (ds ++ b ∷ t) → AllDigits 10 (take n (ds ++ b ∷ t))
    → (n < most → n < length (ds ++ b ∷ t) → is_ascii_digit (get_or (ds ++ b ∷ t) n 0) ≡ false) → n ≡ length ds
digits_end [] t b zero most all none few low within found stops = refl
digits_end [] t b (suc n) most all none few low within found stops = absurd (true≢false (sym (is_digit b found.0) ∙ none))
digits_end (d ∷ ds) t b zero most all none few low within found stops =
    absurd (true≢false (sym (is_digit d all.0) ∙ stops (omega (arith, few)) (omega arith)))
digits_end (d ∷ ds) t b (suc n) most all none few low within found stops =
    ap suc (digits_end ds t b n (most - 1) all.1 none (omega (arith, few)) (omega (arith, low)) (omega (arith, within)) found.1
    (λ l m. stops (omega (arith, l)) (omega (arith, m))))

no_minus : (d : ℕ) → digit_value d < 10 → d ≢ 45
no_minus d low e = true≢false (sym (is_digit d low) ∙ ap is_ascii_digit e)

-- a sign that was found is that of the numeral
unsigned_is : (negative found : Bool) (ds t body piece : List ℕ) → 0 < length ds → AllDigits 10 ds
    → piece ≡ sign_text negative ++ (ds ++ t) → piece ≡ sign_text found ++ body → (IsFalse found → get_or piece 0 0 ≢ 45) → body ≡ ds ++ t
unsigned_is true true ds t body piece some all is found unsigned = ap (drop 1) (sym found ∙ is)
unsigned_is true false ds t body piece some all is found unsigned = absurd (unsigned refl (ap (λ p. get_or p 0 0) is))
unsigned_is false true [] t body piece some all is found unsigned = absurd (omega (arith, some))
unsigned_is false true (d ∷ ds) t body piece some all is found unsigned =
    absurd (no_minus d all.0 (ap (λ p. get_or p 0 0) (sym is ∙ found)))
unsigned_is false false ds t body piece some all is found unsigned = sym found ∙ is

-- ---- the byte after the numeral

goes_on : (b : ℕ) → is_some (read (next (at.Fraction Ten) b) []) ≡ false → (is_ascii_digit b ≡ false) × (b ≢ 101) × (b ≢ 69)
goes_on b ends = grind (arith, nat_tests, ends)

no_more : (negative : Bool) (ds es : List ℕ) (b : ℕ) → 0 < length ds → AllDigits 10 ds → AllDigits 10 es
    → begins_float ((sign_text negative ++ (ds ++ 46 ∷ es)) ++ b ∷ []) ≡ false → (is_ascii_digit b ≡ false) × (b ≢ 101) × (b ≢ 69)
no_more negative ds es b some all more ends =
    let text : List ℕ = sign_text negative ++ (ds ++ 46 ∷ es) in
    goes_on b (sym (ap is_some (read_more (Some at.Start) text (b ∷ [])
    ∙ ap (λ o. read o (b ∷ [])) (numeral_read negative ds es some all more))) ∙ ends)

-- ---- the numeral

module _ (piece body : List ℕ) (found : Bool) (is : piece ≡ sign_text found ++ body) (unsigned : IsFalse found → get_or piece 0 0 ≢ 45)
    (d : Decimal) (within : DecimalWithin piece d) (few : length within.numeral.whole + length within.numeral.fraction ≤ 19) where
  abbrev whole : List ℕ
  whole = within.numeral.whole

  abbrev fraction : List ℕ
  fraction = within.numeral.fraction

  abbrev behind : ℕ
  behind = get_or piece d.bytes 0

  abbrev rest : List ℕ
  rest = drop (d.bytes + 1) piece

  abbrev text : List ℕ
  text = sign_text d.negative ++ (whole ++ 46 ∷ fraction)

  piece_is : piece ≡ sign_text d.negative ++ (whole ++ 46 ∷ (fraction ++ behind ∷ rest))
  piece_is =
      sym (take-append-drop d.bytes piece) ∙ (λ i. within.numeral.joined i ++ drop_more piece d.bytes 0 within.behind i)
      ∙ append_assoc (sign_text d.negative) (whole ++ 46 ∷ fraction) (behind ∷ rest)
      ∙ ap (λ (t : List ℕ). sign_text d.negative ++ t) (append_assoc whole (46 ∷ fraction) (behind ∷ rest))

  body_is : body ≡ whole ++ 46 ∷ (fraction ++ behind ∷ rest)
  body_is = unsigned_is d.negative found whole (46 ∷ (fraction ++ behind ∷ rest)) body piece within.numeral.some
      within.numeral.whole_digits piece_is is unsigned

  ends : (is_ascii_digit behind ≡ false) × (behind ≢ 101) × (behind ≢ 69)
  ends = no_more d.negative whole fraction behind within.numeral.some within.numeral.whole_digits within.numeral.fraction_digits
      (ap begins_float (sym (take_more piece d.bytes 0 within.behind ∙ ap (λ (t : List ℕ). t ++ behind ∷ []) within.numeral.joined))
      ∙ within.ends)

  module _ (point : ℕ) (low : point ≤ 19) (inside : point ≤ length body) (all : AllDigits 10 (take point body))
      (stops : point < 19 → point < length body → is_ascii_digit (get_or body point 0) ≡ false) where
    point_is : point ≡ length whole
    point_is = digits_end whole (fraction ++ behind ∷ rest) 46 point 19 within.numeral.whole_digits refl (omega (arith, few)) low
        (subst (λ (t : List ℕ). point ≤ length t) body_is inside) (subst (λ (t : List ℕ). AllDigits 10 (take point t)) body_is all)
        (subst (λ (t : List ℕ). point < 19 → point < length t → is_ascii_digit (get_or t point 0) ≡ false) body_is stops)

    pub point_some : 0 < point
    point_some = omega (arith, point_is, within.numeral.some)

    pub point_there : get_or body point 0 ≡ 46
    point_there = (λ i. get_or (body_is i) (point_is i) 0) ∙ get_or-append_seam whole 46 (fraction ++ behind ∷ rest) 0

    module _ (after : List ℕ) (then : after ≡ drop (point + 1) body) (places : ℕ) (few_left : places ≤ 19 - point)
        (before : places ≤ length after) (digits : AllDigits 10 (take places after))
        (stays : places < 19 - point → places < length after → is_ascii_digit (get_or after places 0) ≡ false) where
      after_is : after ≡ fraction ++ behind ∷ rest
      after_is = then ∙ (λ i. drop (point_is i + 1) (body_is i)) ∙ drop-append-add whole (46 ∷ (fraction ++ behind ∷ rest)) 1

      places_are : places ≡ length fraction
      places_are = digits_end fraction rest behind places (19 - point) within.numeral.fraction_digits ends.0
          (omega (arith, few, point_is)) few_left (subst (λ (t : List ℕ). places ≤ length t) after_is before)
          (subst (λ (t : List ℕ). AllDigits 10 (take places t)) after_is digits)
          (subst (λ (t : List ℕ). places < 19 - point → places < length t → is_ascii_digit (get_or t places 0) ≡ false) after_is stays)

      byte_is : get_or after places 0 ≡ behind
      byte_is = (λ i. get_or (after_is i) (places_are i) 0) ∙ get_or-append_seam fraction behind rest 0

      pub behind_within : places < length after
      behind_within =
          let long = ap length after_is ∙ length-append fraction (behind ∷ rest) in
          omega (arith, long, places_are)

      pub ends_numeral : (is_ascii_digit (get_or after places 0) ≡ false) × (get_or after places 0 ≢ 101) × (get_or after places 0 ≢ 69)
      ends_numeral = (ap is_ascii_digit byte_is ∙ ends.0, (λ e. ends.1 (sym byte_is ∙ e)), (λ e. ends.2 (sym byte_is ∙ e)))
