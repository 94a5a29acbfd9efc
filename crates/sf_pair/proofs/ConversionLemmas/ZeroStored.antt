-- What is stored of the text of 0.
use Rattle.std.proofs.Common.{◌≡◌, ℕ, zero, suc, ◌+◌, ◌-◌, ◌*◌, ◌^◌, Bool, true, false, cond, eqb, ◌||◌, List, [], ◌∷◌, ◌++◌, length, take}
use Rattle.std.proofs.Common.{drop, slice_index, Option, Some, None, is_some, option_and_then, option_map, refl, sym, ap, subst, ◌∙◌, arith}
use Rattle.std.proofs.Common.{append-nil, true≢false, to_bits, pow_pos, if◌then◌else◌}
use Rattle.std.specs.Prelude.{not}
use Rattle.std.proofs.Math.Nat.{zero-mul}
use Rattle.std.proofs.lemmas.Bool.{eqb-true, lt-ltb}
use Rattle.std.proofs.lemmas.List.{replicate-append-replicate, length-replicate}
use Rattle.std.proofs.lemmas.Float.Parse.{is_some-parse_float}
use Rattle.std.specs.List.{AllByRecursion, list_all, slice_range, prefix_len}
use Rattle.std.specs.Char.{is_ascii_digit, is_ascii_hexdigit, digit_value, to_ascii_lowercase, to_ascii_uppercase}
use Rattle.std.specs.Str.Parse.{digits_value}
use Rattle.std.specs.Float.{float_is_infinite}
use Rattle.std.specs.Float.Ieee.{Float, binary64, round}
use Rattle.std.specs.Float.Numeral.{scan_numeral, digits_len, digits_end, has_digits, numeral_digits, tens_up, tens_down, nearest_float}
use Rattle.std.specs.Float.Parse.{read_unsigned, read_float, parse_float}
use Rattle.sf_float.specs.declared.text.Style.{Style}
use Rattle.sf_float.specs.declared.text.Style.TheVariants.{Fixed, Exponent, General, Hexadecimal}
use Rattle.sf_float.specs.declared.text.FloatConv.{FloatConv}
use Rattle.sf_float.specs.Printed.{in_case, is_hexadecimal, inner_zeros}
use Rattle.sf_float.specs.Computed.{digits_text}
use Rattle.sf_float.proofs.TextLaws.{zero_round}
use Rattle.sf_float.proofs.Limbs.{power_pos}
use Rattle.sf_float_read.specs.declared.item.reached.Forms.TheVariants as forms
use Rattle.sf_float_read.specs.item.Laws.{is_plain}
use Rattle.sf_float_read.specs.item.Sequences.{IsFloat}
use Rattle.sf_float_read.specs.value.Values.{stored}
use Rattle.sf_float_read.specs.value.Hexadecimals.{digits_read}
use Rattle.sf_float_read.specs.value.Computed.{ups, downs, hexadecimal_number, stored_size, stored_in}
use Rattle.sf_print.specs.texts.Text.{zeros}
use Rattle.sf_pair.specs.conversions.Below.{LawsBelow}
use Rattle.sf_pair.proofs.ConversionLemmas.Bodies.{value-zeros}
use Rattle.sf_pair.proofs.ConversionLemmas.Places.{is_one_of, one_of, All}
use Rattle.sf_pair.proofs.ConversionLemmas.RealTexts.{all_append, case_all, size_of, body}
use Rattle.sf_pair.proofs.ConversionLemmas.RealSizes.{zero_number}
use Rattle.sf_pair.proofs.ConversionLemmas.RealZero.{Zeros, tail_of, digits_are_zeros}
use Rattle.sf_pair.proofs.ConversionLemmas.ZeroRead.{zeros_front, sign_is_plus, size_is, decimal_after, hex_after, zero_matches}

-- ---- the bytes of its text

abbrev decimal_zeros : List ℕ
decimal_zeros = 43 ∷ 46 ∷ 48 ∷ 69 ∷ 101 ∷ []

abbrev hex_zeros : List ℕ
hex_zeros = 43 ∷ 46 ∷ 48 ∷ 80 ∷ 112 ∷ []

zeros_in : (ks : List ℕ) → is_one_of ks 48 ≡ true → (k : ℕ) → All ks (zeros k)
zeros_in ks e zero = tt
zeros_in ks e (suc k) = (e, zeros_in ks e k)

raw_in : (ks raw tail : List ℕ) → is_one_of ks 48 ≡ true → is_one_of ks 46 ≡ true → Zeros raw tail → All ks tail → All ks raw
raw_in ks raw tail e f z h = subst (All ks) (sym z.is)
    (e, all_append ks (cond z.pointed (46 ∷ zeros z.many) []) tail (by z.pointed) h)
  where
    by : (p : Bool) → All ks (cond p (46 ∷ zeros z.many) [])
    by true = (f, zeros_in ks e z.many)
    by false = tt

drop_in : (ks : List ℕ) (i : ℕ) (xs : List ℕ) → All ks xs → All ks (drop i xs)
drop_in ks zero xs h = h
drop_in ks (suc i) [] h = tt
drop_in ks (suc i) (x ∷ xs) h = drop_in ks i xs h.1

-- ---- a decimal numeral of zeros

digit_zero : (b : ℕ) → is_one_of decimal_zeros b ≡ true → is_ascii_digit b ≡ true → b ≡ 48
digit_zero b is digit = by (is_ascii_digit b) digit (one_of (λ b. not (is_ascii_digit b) || eqb b 48) decimal_zeros b refl is)
  where
    by : (t : Bool) → t ≡ true → (not t || eqb b 48) ≡ true → b ≡ 48
    by true e h = eqb-true b 48 h
    by false e h = absurd cc

front_zeros : (xs : List ℕ) → All decimal_zeros xs → take (prefix_len is_ascii_digit xs) xs ≡ zeros (prefix_len is_ascii_digit xs)
front_zeros [] h = refl
front_zeros (x ∷ xs) h = by (is_ascii_digit x) refl (front_zeros xs h.1)
  where
    one : (n : ℕ) → 1 + n ≡ suc n
    one n = omega arith

    by : (t : Bool) → is_ascii_digit x ≡ t → take (prefix_len is_ascii_digit xs) xs ≡ zeros (prefix_len is_ascii_digit xs)
        → take (cond t (1 + prefix_len is_ascii_digit xs) 0) (x ∷ xs) ≡ zeros (cond t (1 + prefix_len is_ascii_digit xs) 0)
    by true e more =
        ap (λ (k : ℕ). take k (x ∷ xs)) (one (prefix_len is_ascii_digit xs))
        ∙ (λ i. digit_zero x h.0 e i ∷ more i) ∙ ap zeros (sym (one (prefix_len is_ascii_digit xs)))
    by false e more = refl

part_zeros : (bs : List ℕ) (i : ℕ) → All decimal_zeros bs → slice_range bs i (digits_end bs i) ≡ zeros (digits_len (drop i bs))
part_zeros bs i h =
    ap (λ (k : ℕ). take k (drop i bs)) {x = digits_end bs i - i} {y = digits_len (drop i bs)} (omega arith)
    ∙ front_zeros (drop i bs) (drop_in decimal_zeros i bs h)

zeros_value : (k : ℕ) → digits_value 10 (zeros k) ≡ 0
zeros_value k = ap (digits_value 10) (sym (append-nil (zeros k))) ∙ value-zeros 10 k []

numeral_none : (bs : List ℕ) → All decimal_zeros bs → numeral_digits (scan_numeral bs) ≡ 0
unfolding scan_numeral
numeral_none bs h =
    let a : ℕ = digits_end bs 0 in
    ap (λ (t : List ℕ). digits_value 10 (t ++ cond (eqb (slice_index bs a) 46)
    (slice_range bs (a + 1) (cond (eqb (slice_index bs a) 46) (digits_end bs (a + 1)) a)) [])) (part_zeros bs 0 h)
    ∙ by (eqb (slice_index bs a) 46)
  where
    by : (t : Bool) → digits_value 10 (zeros (digits_len (drop 0 bs))
        ++ cond t (slice_range bs (digits_end bs 0 + 1) (cond t (digits_end bs (digits_end bs 0 + 1)) (digits_end bs 0))) []) ≡ 0
    by true =
        let j : ℕ = digits_len (drop (digits_end bs 0 + 1) bs) in
        ap (λ (t : List ℕ). digits_value 10 (zeros (digits_len (drop 0 bs)) ++ t)) (part_zeros bs (digits_end bs 0 + 1) h)
        ∙ ap (digits_value 10) (replicate-append-replicate (digits_len (drop 0 bs)) j 48)
        ∙ zeros_value (digits_len (drop 0 bs) + j)
    by false = ap (digits_value 10) (append-nil (zeros (digits_len (drop 0 bs)))) ∙ zeros_value (digits_len (drop 0 bs))

numeral_some : (t : List ℕ) → All decimal_zeros (48 ∷ t) → has_digits (scan_numeral (48 ∷ t)) ≡ true
unfolding scan_numeral
numeral_some t h =
    let whole = part_zeros (48 ∷ t) 0 h in
    lt-ltb 0 _ (omega (arith, ap length whole, length-replicate {A = ℕ} (digits_len (48 ∷ t)) 48))

zero_nearest : (bs : List ℕ) → All decimal_zeros bs → nearest_float binary64 false (scan_numeral bs) ≡ zero_number
zero_nearest bs h =
    let p = scan_numeral bs in
    ap (λ (n : ℕ). round binary64 false n (10 ^ tens_down p)) (ap (λ (d : ℕ). d * 10 ^ tens_up p) (numeral_none bs h)
    ∙ zero-mul (10 ^ tens_up p)) ∙ zero_round false (10 ^ tens_down p) (power_pos 10 (tens_down p) (omega arith))

-- after a plus or no sign
parsed : (p : Bool) (t : List ℕ) → All decimal_zeros (48 ∷ t) → (n : ℕ)
    × (read_float binary64 (cond p (43 ∷ []) [] ++ 48 ∷ t) ≡ Some (zero_number, n))
unfolding read_float
parsed p t h = by p
  where
    unsigned : read_unsigned binary64 false (48 ∷ t) ≡ Some (zero_number, (scan_numeral (48 ∷ t)).len)
    unsigned = rw (numeral_some t h) (ap (λ (x : Float). Some (x, (scan_numeral (48 ∷ t)).len)) (zero_nearest (48 ∷ t) h))

    by : (p : Bool) → (n : ℕ) × (read_float binary64 (cond p (43 ∷ []) [] ++ 48 ∷ t) ≡ Some (zero_number, n))
    by true = (1 + (scan_numeral (48 ∷ t)).len, ap (option_map (λ r. (r.0, 1 + r.1))) unsigned)
    by false = (0 + (scan_numeral (48 ∷ t)).len, ap (option_map (λ r. (r.0, 0 + r.1))) unsigned)

plain_bytes : (xs : List ℕ) → All decimal_zeros xs → AllByRecursion (λ b. is_plain b false) xs
plain_bytes [] h = tt
plain_bytes (x ∷ xs) h = (
  none (eqb x 120 || (eqb x 88 || eqb x 40))
      (one_of (λ b. not (eqb b 120 || (eqb b 88 || eqb b 40))) decimal_zeros x refl h.0),
  plain_bytes xs h.1,
)
  where
    none : (t : Bool) → not t ≡ true → t ≡ false
    none true e = absurd cc
    none false e = refl

zero_parsed : LawsBelow → (p : Bool) (t : List ℕ) → All decimal_zeros (48 ∷ t) → IsFloat (cond p (43 ∷ []) [] ++ 48 ∷ t)
    → parse_float binary64 (cond p (43 ∷ []) [] ++ 48 ∷ t) ≡ Some zero_number
zero_parsed laws p t h float =
    let bs : List ℕ = cond p (43 ∷ []) [] ++ 48 ∷ t in
    let r = parsed p t h in
    whole (eqb r.0 (length bs)) (ap (option_and_then (λ r. if eqb r.1 (length bs) then Some r.0 else None)) r.1)
    (is_some-parse_float binary64 bs ∙ laws.plain bs (plain_bytes bs (all p)) float)
  where
    all : (p : Bool) → All decimal_zeros (cond p (43 ∷ []) [] ++ 48 ∷ t)
    all true = (refl, h)
    all false = h

    whole : (b : Bool) {o : Option Float} → o ≡ cond b (Some zero_number) None → is_some o ≡ true → o ≡ Some zero_number
    whole true e s = e
    whole false e s = absurd (true≢false (sym s ∙ ap is_some e))

-- ---- a hexadecimal numeral of zeros

hex_zero : (b : ℕ) → is_one_of hex_zeros b ≡ true → is_ascii_hexdigit b ≡ true → digit_value b ≡ 0
hex_zero b is digit = by (is_ascii_hexdigit b) digit (one_of (λ b. not (is_ascii_hexdigit b) || eqb (digit_value b) 0) hex_zeros b refl is)
  where
    by : (t : Bool) → t ≡ true → (not t || eqb (digit_value b) 0) ≡ true → digit_value b ≡ 0
    by true e h = eqb-true (digit_value b) 0 h
    by false e h = absurd cc

hex_none : (places : ℕ) (after : Bool) (t : List ℕ) → All hex_zeros t → (digits_read 0 places after t).0 ≡ 0
hex_none places after [] h = refl
hex_none places after (b ∷ t) h = by (is_ascii_hexdigit b) (eqb b 46) refl (λ places after. hex_none places after t h.1)
  where
    by : (d p : Bool) → is_ascii_hexdigit b ≡ d → ((places : ℕ) (after : Bool) → (digits_read 0 places after t).0 ≡ 0)
        → (cond d (digits_read (0 * 16 + digit_value b) (cond after (suc places) places) after t)
        (cond p (digits_read 0 places true t) (0, places, b ∷ t))).0 ≡ 0
    by true p e more =
        ap (λ (v : ℕ). (digits_read v (cond after (suc places) places) after t).0) {x = 0 * 16 + digit_value b} {y = 0}
        (omega (arith, hex_zero b h.0 e)) ∙ more (cond after (suc places) places) after
    by false true e more = more places true
    by false false e more = refl

zero_hexadecimal : (t : List ℕ) → All hex_zeros t → hexadecimal_number binary64 false t ≡ zero_number
zero_hexadecimal t h =
    let r = digits_read 0 0 false t in
    ap (λ (n : ℕ). round binary64 false n (2 ^ (4 * r.1 + downs r.2)))
    (ap (λ (d : ℕ). d * 2 ^ ups r.2) (hex_none 0 false t h) ∙ zero-mul (2 ^ ups r.2))
    ∙ zero_round false (2 ^ (4 * r.1 + downs r.2)) (pow_pos (4 * r.1 + downs r.2))

-- ---- what is stored

zero_stored : stored binary64 zero_number ≡ Some 0
unfolding float_is_infinite lib.Ieee.to_bits
zero_stored = refl

-- of a text that has a 0 first, after a plus or no sign
module _ (laws : LawsBelow) (p : Bool) (t : List ℕ) where
  decimal_stored : All decimal_zeros (48 ∷ t) → IsFloat (cond p (43 ∷ []) [] ++ 48 ∷ t)
      → stored_in binary64 (cond p (43 ∷ []) [] ++ 48 ∷ t) ≡ Some 0
  unfolding stored_in
  decimal_stored h float = by p (zero_parsed laws p t h float)
    where
      no_prefix : (t : List ℕ) → All decimal_zeros (48 ∷ t) → eqb (to_ascii_lowercase (slice_index (48 ∷ t) 1)) 120 ≡ false
      no_prefix [] h = refl
      no_prefix (b ∷ t) h = none (eqb (to_ascii_lowercase b) 120)
          (one_of (λ b. not (eqb (to_ascii_lowercase b) 120)) decimal_zeros b refl h.1.0)
        where
          none : (t : Bool) → not t ≡ true → t ≡ false
          none true e = absurd cc
          none false e = refl

      sized : (item : List ℕ) → parse_float binary64 item ≡ Some zero_number → stored_size binary64 false item (48 ∷ t) ≡ Some 0
      sized item e = rw (no_prefix t h) (ap (option_and_then (stored binary64)) e ∙ zero_stored)

      by : (p : Bool) → parse_float binary64 (cond p (43 ∷ []) [] ++ 48 ∷ t) ≡ Some zero_number
          → stored_in binary64 (cond p (43 ∷ []) [] ++ 48 ∷ t) ≡ Some 0
      by true e = sized (43 ∷ 48 ∷ t) e
      by false e = sized (48 ∷ t) e

  hex_stored : (u : Bool) → All hex_zeros t → stored_in binary64 (cond p (43 ∷ []) [] ++ 48 ∷ cond u 88 120 ∷ t) ≡ Some 0
  unfolding stored_in
  hex_stored u h = by p u
    where
      sized : (u : Bool) (item : List ℕ) → stored_size binary64 false item (48 ∷ cond u 88 120 ∷ t) ≡ Some 0
      sized true item = ap (stored binary64) (zero_hexadecimal t h) ∙ zero_stored
      sized false item = ap (stored binary64) (zero_hexadecimal t h) ∙ zero_stored

      by : (p u : Bool) → stored_in binary64 (cond p (43 ∷ []) [] ++ 48 ∷ cond u 88 120 ∷ t) ≡ Some 0
      by true u = sized u (43 ∷ 48 ∷ cond u 88 120 ∷ t)
      by false u = sized u (48 ∷ cond u 88 120 ∷ t)

module _ (laws : LawsBelow) (c : FloatConv) where
  size_in : (ks : List ℕ) → is_one_of ks 48 ≡ true → is_one_of ks 46 ≡ true → list_all (λ b. is_one_of ks (to_ascii_uppercase b)) ks ≡ true
      → (s : Style) → c.style ≡ s → All ks (tail_of s) → All ks (size_of c zero_number)
  size_in ks e f kept s a h = case_all c.upper ks (digits_text c.style c.alt c.precision zero_number) kept
      (subst (λ (s : Style). All ks (digits_text s c.alt c.precision zero_number)) (sym a)
      (raw_in ks (digits_text s c.alt c.precision zero_number) (tail_of s) e f (digits_are_zeros s c.alt c.precision) h))

  inner_part : (ks : List ℕ) → is_one_of ks 48 ≡ true → All ks (size_of c zero_number)
      → All ks (zeros (inner_zeros c zero_number (size_of c zero_number)) ++ size_of c zero_number)
  inner_part ks e h = all_append ks (zeros (inner_zeros c zero_number (size_of c zero_number))) (size_of c zero_number)
      (zeros_in ks e (inner_zeros c zero_number (size_of c zero_number))) h

  pub zero_is_stored : stored_in binary64 (body c zero_number) ≡ Some 0
  zero_is_stored = by c.style refl
    where
      decimal : (s : Style) → c.style ≡ s → is_hexadecimal s ≡ false → All decimal_zeros (tail_of s)
          → stored_in binary64 (body c zero_number) ≡ Some 0
      decimal s e other h =
          let z = digits_are_zeros s c.alt c.precision in
          let n : ℕ = inner_zeros c zero_number (size_of c zero_number) in
          let late : List ℕ = cond z.pointed (46 ∷ zeros z.many) [] ++ in_case c.upper (tail_of s) in
          let t : List ℕ = zeros n ++ late in
          let front : zeros n ++ size_of c zero_number ≡ 48 ∷ t =
          ap (λ (t : List ℕ). zeros n ++ t) (size_is c s e z) ∙ zeros_front n late in
          let is : body c zero_number ≡ cond c.plus (43 ∷ []) [] ++ 48 ∷ t =
          (λ i. sign_is_plus c i ++ decimal_after c (ap is_hexadecimal e ∙ other) i)
          ∙ ap (λ (t : List ℕ). cond c.plus (43 ∷ []) [] ++ t) front in
          let all : All decimal_zeros (48 ∷ t) =
          subst (All decimal_zeros) front (inner_part decimal_zeros refl (size_in decimal_zeros refl refl refl s e h)) in
          ap (stored_in binary64) is ∙ decimal_stored laws c.plus t all
          (subst IsFloat is ((laws.floats forms.All (body c zero_number)).0.0 (zero_matches c)))

      by : (s : Style) → c.style ≡ s → stored_in binary64 (body c zero_number) ≡ Some 0
      by Fixed e = decimal Fixed e refl tt
      by General e = decimal General e refl tt
      by Exponent e = decimal Exponent e refl (refl, (refl, (refl, (refl, tt))))
      by Hexadecimal e =
          let n : ℕ = inner_zeros c zero_number (size_of c zero_number) in
          (λ i. stored_in binary64 (sign_is_plus c i ++ hex_after c (ap is_hexadecimal e) i))
          ∙ hex_stored laws c.plus (zeros n ++ size_of c zero_number) c.upper
          (inner_part hex_zeros refl (size_in hex_zeros refl refl refl Hexadecimal e (refl, (refl, (refl, tt)))))
