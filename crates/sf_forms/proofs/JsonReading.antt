-- What arrays and objects of JSON read as.
use Rattle.std.proofs.Common.{◌≡◌, ℕ, zero, suc, ◌+◌, ◌-◌, ◌*◌, ◌/◌, ◌%◌, ◌<◌, ◌≤◌, Bool, true, false, cond, nat_eq, nat_le, nat_lt, List}
use Rattle.std.proofs.Common.{[], ◌∷◌, ◌++◌, length, map, take, ◌^◌, ℤ, pos, negsuc, unsigned_abs, append_assoc, refl, sym, ap, ◌∙◌, arith}
use Rattle.std.proofs.Common.{Option, Some, None, inl, inr, not, true≢false}
use Rattle.std.proofs.lemmas.Bool.{and_from, eqb-true, ne_eqb, le-leb, le-ltb, lt-ltb, ltb-true, ltb-false}
use Rattle.std.proofs.lemmas.Fmt.{decimal_is_IsNumeral}
use Rattle.std.proofs.lemmas.List.{append-nil, length-map}
use Rattle.std.proofs.lemmas.Str.{digit_value-digit_char, is_utf8-from_IsUtf8}
use Rattle.std.specs.Char.{digit_value}
use Rattle.std.specs.Fmt.{decimal, sign_text, signed_decimal}
use Rattle.std.specs.List.{AllByRecursion, flat_map, join_with_byte}
use Rattle.std.specs.Option.{option_map}
use Rattle.std.specs.Str.{is_utf8}
use Rattle.std.specs.Str.Parse.{signed_digits_value}
use Rattle.std.specs.Str.Lossy.{utf8_valid_len, valid_len_up_to}
use Rattle.sf_base.specs.Bytes.{AreBytes}
use Rattle.sf_base.specs.Data.{Datum, Number, Bytes, Real}
use Rattle.sf_float.specs.fewest.Laid.{shortest_text}
use Rattle.sf_forms.specs.Reals.{is_finite}
use Rattle.sf_forms.specs.declared.form.OutputForm.TheVariants.{Json}
use Rattle.sf_forms.specs.Forms.{given_row_text, given_text}
use Rattle.sf_forms.specs.JsonReading.{Arrays, Element, Integer, String, Objects, Outside, Opened, Awaiting, Closed, InNumber, InString}
use Rattle.sf_forms.specs.JsonReading.{InCode}
use Rattle.sf_forms.specs.JsonReading.{Decimal, Exponent, Fraction, InDecimal, Letter, Part, Place, Point, Sign, is_letter}
use Rattle.sf_forms.specs.JsonReading.{Reader, Shape, after, are_paired, at, begins, element_given, element_of, ends, goes_on, is_digit}
use Rattle.sf_forms.specs.JsonReading.{members_of}
use Rattle.sf_forms.specs.JsonReading.{json_objects, json_rows, rows_in, step_at, with_code, with_element}
use Rattle.sf_forms.specs.Heads.{given_object, member, members, object_row, object_text}
use Rattle.sf_forms.specs.JsonStrings.{json_escaped, json_from, json_string, stray}
use Rattle.sf_forms.specs.Quotes.{hex_digit}
use Rattle.sf_forms.specs.ReadingBack.{AreGivenRows, IsGivenValue, JsonGivesValues, JsonObjectsGiveValues, JsonObjectsReadBack}
use Rattle.sf_forms.specs.ReadingBack.{JsonReadsBack, with_names}
use Rattle.sf_forms.proofs.Decimals.{IsDigit, bounded, digits_of_decimal, number_back}
use Rattle.sf_forms.proofs.Floats.{HasDigits, IsDecimal, IsFraction, IsPower, IsTail, IsUnsigned, finite_is, real_are_bytes}
use Rattle.sf_forms.proofs.Givens.{rows_are_given, rows_given, texts_given, through_rows, through_some, values_given}
use Rattle.sf_forms.proofs.JsonWriting.{ascii_byte}

module _ (shape : Shape) where
  after_append : (s : Reader) (a b : List ℕ) → after shape s (a ++ b) ≡ after shape (after shape s a) b
  after_append s [] b = refl
  after_append s (x ∷ a) b = after_append (step_at shape s.place s x) a b

  -- ---- numbers

  digit_is : (b : ℕ) → IsDigit b → is_digit b ≡ true
  digit_is b is = and_from (nat_le 48 b) (nat_le b 57) (le-leb 48 b is.0) (le-leb b 57 is.1)

  digit_step : (s : Reader) (ds : List ℕ) (b : ℕ) → IsDigit b → step_at shape (InNumber ds) s b ≡ at (InNumber (ds ++ b ∷ [])) s
  digit_step s ds b is = rw (digit_is b is) refl

  more_digits : (s : Reader) (ds cs : List ℕ) → AllByRecursion IsDigit cs → after shape (at (InNumber ds) s) cs ≡ at (InNumber (ds ++ cs)) s
  more_digits s ds [] all = ap (λ (t : List ℕ). at (InNumber t) s) (sym (append-nil ds))
  more_digits s ds (c ∷ cs) all =
      ap (λ (r : Reader). after shape r cs) (digit_step (at (InNumber ds) s) ds c all.0) ∙ more_digits s (ds ++ c ∷ []) cs all.1
      ∙ ap (λ (t : List ℕ). at (InNumber t) s) (append_assoc ds (c ∷ []) cs)

  -- ---- numbers with a fraction or an exponent

  -- digits go on as they are
  GoesOn : Part → Part → Type 0
  GoesOn part next = (s : Reader) (text : List ℕ) (b : ℕ) → IsDigit b
      → step_at shape (InDecimal part text) s b ≡ at (InDecimal next (text ++ b ∷ [])) s

  fraction_goes_on : GoesOn Fraction Fraction
  unfolding GoesOn
  fraction_goes_on s text b is = rw (digit_is b is) refl

  exponent_goes_on : GoesOn Exponent Exponent
  unfolding GoesOn
  exponent_goes_on s text b is = rw (digit_is b is) refl

  all_go_on : (part : Part) → GoesOn part part → (s : Reader) (text cs : List ℕ) → AllByRecursion IsDigit cs
      → after shape (at (InDecimal part text) s) cs ≡ at (InDecimal part (text ++ cs)) s
  unfolding GoesOn
  all_go_on part goes s text [] all = ap (λ (t : List ℕ). at (InDecimal part t) s) (sym (append-nil text))
  all_go_on part goes s text (c ∷ cs) all =
      ap (λ (r : Reader). after shape r cs) (goes (at (InDecimal part text) s) text c all.0)
      ∙ all_go_on part goes s (text ++ c ∷ []) cs all.1
      ∙ ap (λ (t : List ℕ). at (InDecimal part t) s) (append_assoc text (c ∷ []) cs)

  -- the first digit, and the others
  digits_read : (part next : Part) → GoesOn part next → GoesOn next next → (s : Reader) (text cs : List ℕ) → HasDigits cs
      → after shape (at (InDecimal part text) s) cs ≡ at (InDecimal next (text ++ cs)) s
  unfolding GoesOn
  digits_read part next first goes s text [] has = absurd (omega (arith, has.0))
  digits_read part next first goes s text (c ∷ cs) has =
      ap (λ (r : Reader). after shape r cs) (first (at (InDecimal part text) s) text c has.1.0)
      ∙ all_go_on next goes s (text ++ c ∷ []) cs has.1.1
      ∙ ap (λ (t : List ℕ). at (InDecimal next t) s) (append_assoc text (c ∷ []) cs)

  -- a point and digits after whole digits
  fraction_read : (s : Reader) (text fraction : List ℕ) → IsFraction fraction
      → after shape (at (InNumber text) s) fraction ≡ at (InDecimal Fraction (text ++ fraction)) s
  unfolding GoesOn
  fraction_read s text fraction (ds, has, is) =
      ap (after shape (at (InNumber text) s)) is
      ∙ digits_read Point Fraction (λ s text b is. rw (digit_is b is) refl) fraction_goes_on s (text ++ 46 ∷ []) ds has
      ∙ ap (λ (t : List ℕ). at (InDecimal Fraction t) s) (append_assoc text (46 ∷ []) ds ∙ ap (λ (t : List ℕ). text ++ t) (sym is))

  -- the letter, the sign and the digits of an exponent, at a place where the letter may stand
  power_read : (place : Place) (s : Reader) (text power : List ℕ)
      → step_at shape place (at place s) 101 ≡ at (InDecimal Letter (text ++ 101 ∷ [])) s → IsPower power
      → after shape (at place s) power ≡ at (InDecimal Exponent (text ++ power)) s
  unfolding GoesOn
  power_read place s text power letter (true, ds, has, is) =
      ap (after shape (at place s)) is ∙ ap (λ (r : Reader). after shape r (45 ∷ ds)) letter
      ∙ digits_read Sign Exponent (λ s text b is. rw (digit_is b is) refl) exponent_goes_on s ((text ++ 101 ∷ []) ++ 45 ∷ []) ds has
      ∙ ap (λ (t : List ℕ). at (InDecimal Exponent t) s) (append_assoc (text ++ 101 ∷ []) (45 ∷ []) ds
      ∙ append_assoc text (101 ∷ []) (45 ∷ ds) ∙ ap (λ (t : List ℕ). text ++ t) (sym is))
  power_read place s text power letter (false, ds, has, is) =
      ap (after shape (at place s)) is ∙ ap (λ (r : Reader). after shape r ds) letter
      ∙ digits_read Letter Exponent (λ s text b is. rw (digit_is b is) refl) exponent_goes_on s (text ++ 101 ∷ []) ds has
      ∙ ap (λ (t : List ℕ). at (InDecimal Exponent t) s) (append_assoc text (101 ∷ []) ds ∙ ap (λ (t : List ℕ). text ++ t) (sym is))

  -- a byte that ends a number
  abbrev EndsNumber : ℕ → Type 0
  EndsNumber b = (is_digit b ≡ false) × (nat_eq b 46 ≡ false) × (is_letter b ≡ false)

  fraction_ends : (s : Reader) (text : List ℕ) (e : ℕ) → EndsNumber e
      → step_at shape (InDecimal Fraction text) (at (InDecimal Fraction text) s) e ≡ goes_on shape (with_element (Decimal text) s) e
  fraction_ends s text e stops = rw (stops.0, stops.2) refl

  exponent_ends : (s : Reader) (text : List ℕ) (e : ℕ) → EndsNumber e
      → step_at shape (InDecimal Exponent text) (at (InDecimal Exponent text) s) e ≡ goes_on shape (with_element (Decimal text) s) e
  exponent_ends s text e stops = rw stops.0 refl

  -- what stands after whole digits, and the byte after the number
  tail_read : (s : Reader) (text tail : List ℕ) → IsTail tail → (e : ℕ) → EndsNumber e → (rest : List ℕ)
      → after shape (at (InNumber text) s) (tail ++ e ∷ rest)
      ≡ after shape (goes_on shape (with_element (Decimal (text ++ tail)) s) e) rest
  unfolding GoesOn
  tail_read s text tail (inl fraction) e stops rest =
      after_append (at (InNumber text) s) tail (e ∷ rest)
      ∙ ap (λ (r : Reader). after shape r (e ∷ rest)) (fraction_read s text tail fraction)
      ∙ ap (λ (r : Reader). after shape r rest) (fraction_ends s (text ++ tail) e stops)
  tail_read s text tail (inr (inl power)) e stops rest =
      after_append (at (InNumber text) s) tail (e ∷ rest)
      ∙ ap (λ (r : Reader). after shape r (e ∷ rest)) (power_read (InNumber text) s text tail refl power)
      ∙ ap (λ (r : Reader). after shape r rest) (exponent_ends s (text ++ tail) e stops)
  tail_read s text tail (inr (inr (f, p, fraction, power, is))) e stops rest =
      ap (λ (t : List ℕ). after shape (at (InNumber text) s) (t ++ e ∷ rest)) is
      ∙ after_append (at (InNumber text) s) (f ++ p) (e ∷ rest)
      ∙ ap (λ (r : Reader). after shape r (e ∷ rest)) (after_append (at (InNumber text) s) f p
      ∙ ap (λ (r : Reader). after shape r p) (fraction_read s text f fraction)
      ∙ power_read (InDecimal Fraction (text ++ f)) s (text ++ f) p refl power)
      ∙ ap (λ (r : Reader). after shape r rest) (exponent_ends s ((text ++ f) ++ p) e stops)
      ∙ ap (λ (t : List ℕ). after shape (goes_on shape (with_element (Decimal t) s) e) rest)
      (append_assoc text f p ∙ ap (λ (t : List ℕ). text ++ t) (sym is))

  -- a reader that waits for an element
  IsReady : Reader → Type 0
  IsReady s = (b : ℕ) → (b ≡ 93 → ⊥) → step_at shape s.place s b ≡ begins s b

  first_digit : (s : Reader) → IsReady s → (ds : List ℕ) → 0 < length ds → AllByRecursion IsDigit ds → after shape s ds ≡ at (InNumber ds) s
  unfolding IsReady
  first_digit s ready [] some all = absurd (omega (arith, some))
  first_digit s ready (d ∷ ds) some all =
      ap (λ (r : Reader). after shape r ds) (ready d (λ e. omega (arith, e, all.0.1)) ∙ begun) ∙ more_digits s (d ∷ []) ds all.1
    where
      begun : begins s d ≡ at (InNumber (d ∷ [])) s
      begun = rw (digit_is d all.0) refl

  number_read : (s : Reader) → IsReady s → (z : ℤ) → unsigned_abs z < 2 ^ 64
      → after shape s (signed_decimal z) ≡ at (InNumber (signed_decimal z)) s
  unfolding IsReady
  number_read s ready (pos n) few = first_digit s ready (decimal n) (decimal_is_IsNumeral n few).0.0 (digits_of_decimal n few)
  number_read s ready (negsuc n) few =
      ap (λ (r : Reader). after shape r (decimal (suc n))) (ready 45 (λ e. omega (arith, e)))
      ∙ more_digits s (45 ∷ []) (decimal (suc n)) (digits_of_decimal (suc n) few)

  -- whole digits after a minus or none
  whole_read : (s : Reader) → IsReady s → (negative : Bool) (ds : List ℕ) → HasDigits ds
      → after shape s (sign_text negative ++ ds) ≡ at (InNumber (sign_text negative ++ ds)) s
  unfolding IsReady
  whole_read s ready false ds has = first_digit s ready ds has.0 has.1
  whole_read s ready true ds has =
      ap (λ (r : Reader). after shape r ds) (ready 45 (λ e. omega (arith, e))) ∙ more_digits s (45 ∷ []) ds has.1

  decimal_read : (s : Reader) → IsReady s → (text : List ℕ) → IsDecimal text → (e : ℕ) → EndsNumber e → (rest : List ℕ)
      → after shape s (text ++ e ∷ rest) ≡ after shape (goes_on shape (with_element (Decimal text) s) e) rest
  unfolding IsReady
  decimal_read s ready text is e stops rest = by is.unsigned
    where
      by : IsUnsigned is.size → after shape s (text ++ e ∷ rest) ≡ after shape (goes_on shape (with_element (Decimal text) s) e) rest
      by (whole, has, (tail, is_tail, same)) =
          let front : List ℕ = sign_text is.negative ++ whole in
          let all : text ≡ front ++ tail = is.is ∙ ap (λ (t : List ℕ). sign_text is.negative ++ t) same
          ∙ sym (append_assoc (sign_text is.negative) whole tail) in
          ap (λ (t : List ℕ). after shape s (t ++ e ∷ rest)) all ∙ ap (after shape s) (append_assoc front tail (e ∷ rest))
          ∙ after_append s front (tail ++ e ∷ rest)
          ∙ ap (λ (r : Reader). after shape r (tail ++ e ∷ rest)) (whole_read s ready is.negative whole has)
          ∙ tail_read s front tail is_tail e stops rest
          ∙ ap (λ (t : List ℕ). after shape (goes_on shape (with_element (Decimal t) s) e) rest) (sym all)

  -- ---- characters

  hex_back : (k : ℕ) → k < 16 → digit_value (hex_digit k) ≡ k
  hex_back k few = digit_value-digit_char k (omega (arith, few))

  code_step : (s : Reader) (t : List ℕ) (more code k : ℕ) → k < 16
      → step_at shape (InCode t more code) s (hex_digit k) ≡ cond (nat_eq more 0) (with_code t s (code * 16 + k))
      (at (InCode t (more - 1) (code * 16 + k)) s)
  code_step s t more code k few = rw (hex_back k few, lt-ltb k 16 few) refl

  -- the last two digits of a code
  two_digits : (s : Reader) (t : List ℕ) (code b : ℕ) → b < 256
      → after shape (at (InCode t 1 code) s) (hex_digit (b / 16) ∷ hex_digit (b % 16) ∷ [])
      ≡ with_code t s ((code * 16 + b / 16) * 16 + b % 16)
  two_digits s t code b few =
      ap (λ (r : Reader). after shape r (hex_digit (b % 16) ∷ []))
      (code_step (at (InCode t 1 code) s) t 1 code (b / 16) (omega (arith, few)))
      ∙ code_step (at (InCode t 0 (code * 16 + b / 16)) s) t 0 (code * 16 + b / 16) (b % 16) (omega arith)

  control_code : (s : Reader) (t : List ℕ) (b : ℕ) → b < 32
      → with_code t s ((0 * 16 + b / 16) * 16 + b % 16) ≡ at (InString (t ++ b ∷ [])) s
  control_code s t b few =
      let is : (0 * 16 + b / 16) * 16 + b % 16 ≡ b = omega arith in
      rw (is, lt-ltb b 128 (omega (arith, few))) refl

  stray_code : (s : Reader) (t : List ℕ) (b : ℕ) → 128 ≤ b → b < 256 → with_code t s ((220 * 16 + b / 16) * 16 + b % 16) ≡ at
      (InString (t ++ b ∷ [])) s
  stray_code s t b high few =
      let is : (220 * 16 + b / 16) * 16 + b % 16 ≡ 56320 + b = omega arith in
      let back : 56320 + b - 56320 ≡ b = omega arith in
      rw (
        is,
        le-ltb (56320 + b) 128 (omega arith),
        le-leb 56448 (56320 + b) (omega (arith, high)),
        le-leb (56320 + b) 56575
            (omega (arith, few)),
        back,
      ) refl

  stray_read : (s : Reader) (t : List ℕ) (b : ℕ) → 128 ≤ b → b < 256
      → after shape (at (InString t) s) (stray b) ≡ at (InString (t ++ b ∷ [])) s
  stray_read s t b high few = two_digits s t 220 b few ∙ stray_code s t b high few

  character_read : (s : Reader) (t : List ℕ) (b : ℕ) → after shape (at (InString t) s) (json_escaped b) ≡ at (InString (t ++ b ∷ [])) s
  character_read s t b = go (nat_eq b 34) (nat_eq b 92) (nat_eq b 10) (nat_eq b 13) (nat_eq b 9) (nat_lt b 32) refl refl refl refl refl refl
    where
      known : (k : ℕ) → nat_eq b k ≡ true → at (InString (t ++ k ∷ [])) s ≡ at (InString (t ++ b ∷ [])) s
      known k e = ap (λ (c : ℕ). at (InString (t ++ c ∷ [])) s) (sym (eqb-true b k e))

      go : (p q r u v w : Bool) → nat_eq b 34 ≡ p → nat_eq b 92 ≡ q → nat_eq b 10 ≡ r → nat_eq b 13 ≡ u → nat_eq b 9 ≡ v → nat_lt b 32 ≡ w
          → after shape (at (InString t) s) (cond p (92 ∷ 34 ∷ []) (cond q (92 ∷ 92 ∷ [])
          (cond r (92 ∷ 110 ∷ []) (cond u (92 ∷ 114 ∷ []) (cond v (92 ∷ 116 ∷ [])
          (cond w (92 ∷ 117 ∷ 48 ∷ 48 ∷ hex_digit (b / 16) ∷ hex_digit (b % 16) ∷ []) (b ∷ []))))))) ≡ at (InString (t ++ b ∷ [])) s
      go true q r u v w e f g h i j = known 34 e
      go false true r u v w e f g h i j = known 92 f
      go false false true u v w e f g h i j = known 10 g
      go false false false true v w e f g h i j = known 13 h
      go false false false false true w e f g h i j = known 9 i
      go false false false false false true e f g h i j =
          let few = ltb-true b 32 j in
          two_digits s t 0 b (omega (arith, few)) ∙ control_code s t b few
      go false false false false false false e f g h i j = rw (e, f, j) refl

  -- ---- strings

  -- an ASCII byte is UTF-8, so no front is empty that begins with it
  not_none : (b : ℕ) (bytes : List ℕ) (n : ℕ) → is_utf8 (b ∷ []) ≡ true → valid_len_up_to (b ∷ bytes) (suc n) ≡ 0 → ⊥
  not_none b bytes zero is none = let e : 1 ≡ 0 = sym (ap (λ (t : Bool). cond t 1 0) is) ∙ none in omega (arith, e)
  not_none b bytes (suc n) is none = go (is_utf8 (b ∷ take (suc n) bytes)) none (λ e. not_none b bytes n is e)
    where
      go : (t : Bool) → cond t (suc (suc n)) (valid_len_up_to (b ∷ bytes) (suc n)) ≡ 0 → (valid_len_up_to (b ∷ bytes) (suc n) ≡ 0 → ⊥) → ⊥
      go true e h = omega (arith, e)
      go false e h = h e

  stray_is_high : (b : ℕ) (bytes : List ℕ) → utf8_valid_len (b ∷ bytes) ≡ 0 → 128 ≤ b
  unfolding utf8_valid_len
  stray_is_high b bytes none = go (nat_lt b 128) refl
    where
      go : (t : Bool) → nat_lt b 128 ≡ t → 128 ≤ b
      go true e = absurd (not_none b bytes (length bytes) (is_utf8-from_IsUtf8 (b ∷ []) (ascii_byte b (ltb-true b 128 e))) none)
      go false e = ltb-false b 128 e

  -- the bytes so far, one more and the others
  one_by_one : (s : Reader) (t : List ℕ) (b : ℕ) (bytes character rest : List ℕ)
      → after shape (at (InString t) s) character ≡ at (InString (t ++ b ∷ [])) s
      → after shape (at (InString (t ++ b ∷ [])) s) rest ≡ at (InString ((t ++ b ∷ []) ++ bytes)) s
      → after shape (at (InString t) s) (character ++ rest) ≡ at (InString (t ++ b ∷ bytes)) s
  one_by_one s t b bytes character rest one others =
      after_append (at (InString t) s) character rest ∙ ap (λ (r : Reader). after shape r rest) one ∙ others
      ∙ ap (λ (x : List ℕ). at (InString x) s) (append_assoc t (b ∷ []) bytes)

  characters_read : (s : Reader) (t : List ℕ) (known : ℕ) (bytes : List ℕ) → AreBytes bytes
      → after shape (at (InString t) s) (json_from known bytes) ≡ at (InString (t ++ bytes)) s
  characters_read s t known [] are = ap (λ (x : List ℕ). at (InString x) s) (sym (append-nil t))
  characters_read s t (suc known) (b ∷ bytes) are =
      one_by_one s t b bytes (json_escaped b) (json_from known bytes) (character_read s t b)
      (characters_read s (t ++ b ∷ []) known bytes are.1)
  characters_read s t zero (b ∷ bytes) are =
      go (nat_eq (utf8_valid_len (b ∷ bytes)) 0) refl (characters_read s (t ++ b ∷ []) 0 bytes are.1)
      (characters_read s (t ++ b ∷ []) (utf8_valid_len (b ∷ bytes) - 1) bytes are.1)
    where
      v : ℕ
      v = utf8_valid_len (b ∷ bytes)

      go : (none : Bool) → nat_eq (utf8_valid_len (b ∷ bytes)) 0 ≡ none
          → after shape (at (InString (t ++ b ∷ [])) s) (json_from 0 bytes) ≡ at (InString ((t ++ b ∷ []) ++ bytes)) s
          → after shape (at (InString (t ++ b ∷ [])) s) (json_from (utf8_valid_len (b ∷ bytes) - 1) bytes) ≡ at
          (InString ((t ++ b ∷ []) ++ bytes)) s
          → after shape (at (InString t) s) (cond none (stray b ++ json_from 0 bytes)
          (json_escaped b ++ json_from (utf8_valid_len (b ∷ bytes) - 1) bytes)) ≡ at (InString (t ++ b ∷ bytes)) s
      go true e h i = one_by_one s t b bytes (stray b) (json_from 0 bytes)
          (stray_read s t b (stray_is_high b bytes (eqb-true (utf8_valid_len (b ∷ bytes)) 0 e)) are.0) h
      go false e h i = one_by_one s t b bytes (json_escaped b) (json_from (utf8_valid_len (b ∷ bytes) - 1) bytes) (character_read s t b) i

  string_read : (s : Reader) → step_at shape s.place s 34 ≡ at (InString []) s → (bytes : List ℕ) → AreBytes bytes → (rest : List ℕ)
      → after shape s (json_string bytes ++ rest) ≡ after shape (with_element (String bytes) s) rest
  string_read s quote bytes are rest =
      ap (λ (r : Reader). after shape r ((json_from 0 bytes ++ 34 ∷ []) ++ rest)) quote
      ∙ ap (after shape (at (InString []) s)) (append_assoc (json_from 0 bytes) (34 ∷ []) rest)
      ∙ after_append (at (InString []) s) (json_from 0 bytes) (34 ∷ rest)
      ∙ ap (λ (r : Reader). after shape r (34 ∷ rest)) (characters_read s [] 0 bytes are)

  -- ---- elements

  element_read : (s : Reader) → IsReady s → (d : Option Datum) → IsGivenValue d → (e : ℕ) → EndsNumber e → (rest : List ℕ)
      → after shape s (given_text Json d ++ e ∷ rest) ≡ after shape (goes_on shape (with_element (element_given d) s) e) rest
  unfolding IsReady
  element_read s ready None is e stops rest =
      ap (λ (r : Reader). after shape r (117 ∷ 108 ∷ 108 ∷ e ∷ rest)) (ready 110 (λ e. omega (arith, e)))
  element_read s ready (Some (Number kind n)) is e stops rest =
      after_append s (signed_decimal n) (e ∷ rest)
      ∙ ap (λ (r : Reader). after shape r (e ∷ rest)) (number_read s ready n (bounded kind n is))
      ∙ ap (λ (r : Reader). after shape r rest) ended ∙ ap (λ (z : ℤ). after shape (goes_on shape (with_element (Integer z) s) e) rest)
      (number_back n (bounded kind n is))
    where
      ended : step_at shape (InNumber (signed_decimal n)) (at (InNumber (signed_decimal n)) s) e ≡ goes_on shape
          (with_element (Integer (signed_digits_value 10 (signed_decimal n))) s) e
      ended = rw (stops.0, stops.1, stops.2) refl
  element_read s ready (Some (Real r)) is e stops rest = by (is_finite r) refl
    where
      by : (b : Bool) → is_finite r ≡ b
          → after shape s (cond (not b) (json_string (shortest_text r)) (shortest_text r) ++ e ∷ rest)
          ≡ after shape (goes_on shape (with_element (cond b (Decimal (shortest_text r)) (String (shortest_text r))) s) e) rest
      by true finite = decimal_read s ready (shortest_text r) (finite_is r finite) e stops rest
      by false finite = string_read s (ready 34 (λ e. omega (arith, e))) (shortest_text r) (real_are_bytes r) (e ∷ rest)
  element_read s ready (Some (Bytes bytes)) is e stops rest = string_read s (ready 34 (λ e. omega (arith, e))) bytes is (e ∷ rest)

-- ---- arrays

-- the reader after an array of these elements
behind_array : Reader → List Element → Reader
behind_array s elements = record { rows = s.rows; row = s.row ++ elements; place = Closed }

elements_read : (s : Reader) → IsReady Arrays s → (d : Option Datum) (row : List (Option Datum))
    → AllByRecursion IsGivenValue (d ∷ row) → (rest : List ℕ)
    → after Arrays s (join_with_byte 44 (map (given_text Json) (d ∷ row)) ++ (93 ∷ rest))
    ≡ after Arrays (behind_array s (map element_given (d ∷ row))) rest
unfolding IsReady behind_array
elements_read s ready d [] are rest = element_read Arrays s ready d are.0 93 (refl, refl, refl) rest
elements_read s ready d (e ∷ row) are rest =
    let others : List ℕ = join_with_byte 44 (map (given_text Json) (e ∷ row)) in
    let next : Reader = at Awaiting (with_element (element_given d) s) in
    ap (after Arrays s) (append_assoc (given_text Json d) (44 ∷ others) (93 ∷ rest))
    ∙ element_read Arrays s ready d are.0 44 (refl, refl, refl) (others ++ (93 ∷ rest))
    ∙ elements_read next (λ b no. refl) e row are.1 rest
    ∙ ap (λ (t : List Element). after Arrays (record { rows = s.rows; row = t; place = Closed }) rest)
    (append_assoc s.row (element_given d ∷ []) (map element_given (e ∷ row)))

-- the reader that has read these arrays
done : List (List Element) → Reader
done rows = record { rows = rows; row = []; place = Outside }

array_read : (rows : List (List Element)) (row : List (Option Datum)) → AllByRecursion IsGivenValue row → (text : List ℕ)
    → after Arrays (done rows) (given_row_text Json row ++ text) ≡ after Arrays (done (rows ++ map element_given row ∷ [])) text
unfolding IsReady behind_array done
array_read rows [] are text = refl
array_read rows (d ∷ row) are text =
    let opened : Reader = record { rows = rows; row = []; place = Opened } in
    ap (after Arrays opened) (append_assoc (join_with_byte 44 (map (given_text Json) (d ∷ row))) (93 ∷ 10 ∷ []) text)
    ∙ elements_read opened (λ b no. rw (ne_eqb b 93 no) refl) d row are (10 ∷ text)

arrays_read : (rows : List (List Element)) (more : List (List (Option Datum))) → AreGivenRows more
    → after Arrays (done rows) (flat_map (given_row_text Json) more) ≡ done (rows ++ map (map element_given) more)
unfolding done
arrays_read rows [] are = ap (λ (t : List (List Element)). done t) (sym (append-nil rows))
arrays_read rows (row ∷ more) are =
    array_read rows row are.0 (flat_map (given_row_text Json) more) ∙ arrays_read (rows ++ map element_given row ∷ []) more are.1
    ∙ ap (λ (t : List (List Element)). done t) (append_assoc rows (map element_given row ∷ []) (map (map element_given) more))

pub values_back : JsonGivesValues
unfolding done
values_back rows are = ap (λ (s : Reader). rows_in s.place s) (arrays_read [] rows are)

pub arrays_back : JsonReadsBack
arrays_back rows are =
    ap json_rows (rows_given Json rows) ∙ values_back (map (map Some) rows) (rows_are_given rows are)
    ∙ ap (λ (t : List (List Element)). Some t) (through_rows element_given element_of (λ d. refl) rows)

-- ---- objects

-- a name and its value after names with their values
paired_not : (row : List Element) (name : Element) → are_paired row ≡ true → are_paired (row ++ name ∷ []) ≡ false
paired_not [] name e = refl
paired_not (x ∷ []) name e = absurd (true≢false (sym e))
paired_not (x ∷ y ∷ row) name e = paired_not row name e

paired_again : (row : List Element) (name value : Element) → are_paired row ≡ true
    → are_paired ((row ++ name ∷ []) ++ value ∷ []) ≡ true
paired_again [] name value e = refl
paired_again (x ∷ []) name value e = absurd (true≢false (sym e))
paired_again (x ∷ y ∷ row) name value e = paired_again row name value e

member_read : (s : Reader) → are_paired s.row ≡ true → step_at Objects s.place s 34 ≡ at (InString []) s → (name : List ℕ)
    → AreBytes name → (d : Option Datum) → IsGivenValue d → (e : ℕ) → EndsNumber Objects e → (rest : List ℕ)
    → after Objects s (member name (given_text Json d) ++ e ∷ rest)
    ≡ after Objects (ends Objects (with_element (element_given d) (with_element (String name) s)) e) rest
unfolding IsReady
member_read s paired quote name are d is e stops rest =
    let called : Reader = with_element (String name) s in
    let waiting : Reader = at Awaiting called in
    let given : Reader = with_element (element_given d) called in
    let no_value : are_paired called.row ≡ false = paired_not s.row (String name) paired in
    let colon : goes_on Objects called 58 ≡ waiting = rw no_value refl in
    let ended : goes_on Objects given e ≡ ends Objects given e = rw (paired_again s.row (String name) (element_given d) paired) refl in
    ap (after Objects s) (append_assoc (json_string name) (58 ∷ given_text Json d) (e ∷ rest))
    ∙ string_read Objects s quote name are (58 ∷ (given_text Json d ++ e ∷ rest))
    ∙ ap (λ (r : Reader). after Objects r (given_text Json d ++ e ∷ rest)) colon
    ∙ element_read Objects waiting (λ b no. rw no_value refl) d is e stops rest
    ∙ ap (λ (r : Reader). after Objects r rest) ended

-- the names and values of an object, one after the other
alternating : List (List ℕ) → List (Option Datum) → List Element
alternating (name ∷ names) (d ∷ row) = String name ∷ element_given d ∷ alternating names row
alternating names row = []

-- the reader after an object of these elements
behind_object : Reader → List Element → Reader
behind_object s elements = record { rows = s.rows; row = s.row ++ elements; place = Closed }

members_read : (s : Reader) → are_paired s.row ≡ true → step_at Objects s.place s 34 ≡ at (InString []) s → (name : List ℕ)
    (names : List (List ℕ)) (d : Option Datum) (row : List (Option Datum)) → AllByRecursion AreBytes (name ∷ names)
    → AllByRecursion IsGivenValue (d ∷ row) → length row ≡ length names → (rest : List ℕ)
    → after Objects s (join_with_byte 44 (members (name ∷ names) (map (given_text Json) (d ∷ row))) ++ (125 ∷ rest))
    ≡ after Objects (behind_object s (alternating (name ∷ names) (d ∷ row))) rest
unfolding behind_object alternating
members_read s paired quote name [] d [] are is count rest =
    member_read s paired quote name are.0 d is.0 125 (refl, refl, refl) rest
    ∙ ap (λ (t : List Element). after Objects (record { rows = s.rows; row = t; place = Closed }) rest)
    (append_assoc s.row (String name ∷ []) (element_given d ∷ []))
members_read s paired quote name [] d (e ∷ row) are is count rest = absurd (omega (arith, count))
members_read s paired quote name (other ∷ names) d [] are is count rest = absurd (omega (arith, count))
members_read s paired quote name (other ∷ names) d (e ∷ row) are is count rest =
    let others : List ℕ = join_with_byte 44 (members (other ∷ names) (map (given_text Json) (e ∷ row))) in
    let next : Reader = at Awaiting (with_element (element_given d) (with_element (String name) s)) in
    let again : are_paired next.row ≡ true = paired_again s.row (String name) (element_given d) paired in
    let tail : List Element = alternating (other ∷ names) (e ∷ row) in
    ap (after Objects s) (append_assoc (member name (given_text Json d)) (44 ∷ others) (125 ∷ rest))
    ∙ member_read s paired quote name are.0 d is.0 44 (refl, refl, refl) (others ++ (125 ∷ rest))
    ∙ members_read next again (rw again refl) other names e row are.1 is.1 (omega (arith, count)) rest
    ∙ ap (λ (t : List Element). after Objects (record { rows = s.rows; row = t; place = Closed }) rest)
    (append_assoc (s.row ++ String name ∷ []) (element_given d ∷ []) tail
    ∙ append_assoc s.row (String name ∷ []) (element_given d ∷ tail))

object_read : (rows : List (List Element)) (names : List (List ℕ)) (row : List (Option Datum)) → AllByRecursion AreBytes names
    → AllByRecursion IsGivenValue row → length row ≡ length names → (text : List ℕ)
    → after Objects (done rows) (given_object names row ++ text) ≡ after Objects (done (rows ++ alternating names row ∷ [])) text
unfolding behind_object alternating done
object_read rows [] [] are is count text = refl
object_read rows [] (d ∷ row) are is count text = absurd (omega (arith, count))
object_read rows (name ∷ names) [] are is count text = absurd (omega (arith, count))
object_read rows (name ∷ names) (d ∷ row) are is count text =
    let opened : Reader = record { rows = rows; row = []; place = Opened } in
    ap (after Objects opened)
    (append_assoc (join_with_byte 44 (members (name ∷ names) (map (given_text Json) (d ∷ row)))) (125 ∷ 10 ∷ []) text)
    ∙ members_read opened refl refl name names d row are is (omega (arith, count)) (10 ∷ text)

objects_read : (rows : List (List Element)) (names : List (List ℕ)) (more : List (List (Option Datum))) → AllByRecursion AreBytes names
    → AreGivenRows more → AllByRecursion (λ row. length row ≡ length names) more
    → after Objects (done rows) (flat_map (given_object names) more) ≡ done (rows ++ map (alternating names) more)
unfolding done
objects_read rows names [] are is counts = ap (λ (t : List (List Element)). done t) (sym (append-nil rows))
objects_read rows names (row ∷ more) are is counts =
    object_read rows names row are is.0 counts.0 (flat_map (given_object names) more)
    ∙ objects_read (rows ++ alternating names row ∷ []) names more are is.1 counts.1
    ∙ ap (λ (t : List (List Element)). done t) (append_assoc rows (alternating names row ∷ []) (map (alternating names) more))

members_back : (names : List (List ℕ)) (row : List (Option Datum))
    → members_of (alternating names row) ≡ with_names names (map element_given row)
unfolding alternating
members_back [] [] = refl
members_back [] (d ∷ row) = refl
members_back (name ∷ names) [] = refl
members_back (name ∷ names) (d ∷ row) = ap (λ (t : List (List ℕ × Element)). (name, element_given d) ∷ t) (members_back names row)

all_back : (names : List (List ℕ)) (rows : List (List (Option Datum)))
    → map members_of (map (alternating names) rows) ≡ map (λ row. with_names names (map element_given row)) rows
all_back names [] = refl
all_back names (row ∷ rows) =
    ap (λ (t : List (List ℕ × Element)). t ∷ map members_of (map (alternating names) rows)) (members_back names row)
    ∙ ap (λ (t : List (List (List ℕ × Element))). with_names names (map element_given row) ∷ t) (all_back names rows)

pub members_given : JsonObjectsGiveValues
unfolding done
members_given names rows are is counts =
    ap (λ (s : Reader). option_map (map members_of) (rows_in s.place s)) (objects_read [] names rows are is counts)
    ∙ ap (λ (t : List (List (List ℕ × Element))). Some t) (all_back names rows)

-- ---- objects of which no value is missing

object_given : (names : List (List ℕ)) (row : List Datum) → object_row names row ≡ given_object names (map Some row)
object_given names row = ap (object_text names) (sym (values_given Json row))

lengths : (names : List (List ℕ)) (rows : List (List Datum)) → AllByRecursion (λ row. length row ≡ length names) rows
    → AllByRecursion (λ row. length row ≡ length names) (map (map Some) rows)
lengths names [] counts = tt
lengths names (row ∷ rows) counts = (length-map row Some ∙ counts.0, lengths names rows counts.1)

named_some : (names : List (List ℕ)) (rows : List (List Datum))
    → map (λ row. with_names names (map element_given row)) (map (map Some) rows) ≡ map (λ row. with_names names (map element_of row)) rows
named_some names [] = refl
named_some names (row ∷ rows) =
    ap (λ (t : List Element). with_names names t ∷ map (λ row. with_names names (map element_given row)) (map (map Some) rows))
    (through_some element_given element_of (λ d. refl) row)
    ∙ ap (λ (t : List (List (List ℕ × Element))). with_names names (map element_of row) ∷ t) (named_some names rows)

pub objects_back : JsonObjectsReadBack
objects_back names rows are is counts =
    ap json_objects (texts_given (object_row names) (given_object names) (object_given names) rows)
    ∙ members_given names (map (map Some) rows) are (rows_are_given rows is) (lengths names rows counts)
    ∙ ap (λ (t : List (List (List ℕ × Element))). Some t) (named_some names rows)
