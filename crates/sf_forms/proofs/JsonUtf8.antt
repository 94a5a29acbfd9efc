-- Arrays of JSON are UTF-8.
use Rattle.std.proofs.Common.{◌≡◌, ℕ, zero, suc, ◌+◌, ◌/◌, ◌%◌, ◌<◌, ◌≤◌, Bool, true, false, cond, nat_eq, nat_lt, List, [], ◌∷◌, ◌++◌}
use Rattle.std.proofs.Common.{length, map, take, drop, append-nil, Option, Some, None, not, refl, sym, ap, subst, ◌∙◌, arith}
use Rattle.std.specs.Prelude.{codes}
use Rattle.std.proofs.lemmas.Bool.{and_parts, eqb-false, ne_eqb, le-ltb, ltb-true, ltb-false}
use Rattle.std.proofs.lemmas.Grind.{flat_map-append}
use Rattle.std.proofs.lemmas.List.{length-drop}
use Rattle.std.proofs.lemmas.Str.{IsUtf8-append, IsUtf8-encode, IsUtf8-from_is_utf8, IsUtf8-nil, encode_ascii, utf8_valid_len_le}
use Rattle.std.specs.Fmt.{signed_decimal}
use Rattle.std.specs.List.{AllByRecursion, flat_map, join_with_byte}
use Rattle.std.specs.Str.{IsUtf8, is_utf8}
use Rattle.std.specs.Str.Lossy.{utf8_valid_len, valid_len_up_to}
use Rattle.sf_base.specs.Bytes.{AreBytes}
use Rattle.sf_base.specs.Data.{Datum, Number, Bytes, Real}
use Rattle.sf_float.specs.fewest.Laid.{shortest_text}
use Rattle.sf_forms.specs.Reals.{is_finite}
use Rattle.sf_forms.specs.declared.form.OutputForm.TheVariants.{Json}
use Rattle.sf_forms.specs.Forms.{given_row_text, given_text}
use Rattle.sf_forms.specs.JsonStrings.{json_escaped, json_from, json_string, stray}
use Rattle.sf_forms.specs.Quotes.{hex_digit}
use Rattle.sf_forms.specs.ReadingBack.{GivenJsonIsUtf8, IsGivenValue, JsonIsUtf8}
use Rattle.sf_forms.proofs.Decimals.{IsNumberByte, bounded, number_bytes}
use Rattle.sf_forms.proofs.Floats.{real_are_bytes, real_bytes, text_ascii}
use Rattle.sf_forms.proofs.Givens.{rows_are_given, rows_given}
use Rattle.sf_forms.proofs.JsonWriting.{ascii_byte, ascii_utf8, longest_kept}
use lib.Utf8.{encode, encodes, scalar, scalars}

-- ---- what is written for ASCII

digit_ascii : (k : ℕ) → k < 16 → hex_digit k < 128
digit_ascii k few = go (nat_lt k 10) refl
  where
    go : (t : Bool) → nat_lt k 10 ≡ t → cond t (48 + k) (87 + k) < 128
    go true e = omega (arith, few)
    go false e = omega (arith, few)

stray_ascii : (b : ℕ) → b < 256 → IsUtf8 (stray b)
stray_ascii b few =
    ascii_utf8 (stray b) (
      omega arith,
      (
        omega arith,
        (
          omega arith,
          (
            omega arith,
            (digit_ascii (b / 16) (omega (arith, few)), (digit_ascii (b % 16) (omega arith), tt)),
          ),
        ),
      ),
    )

escaped_ascii : (b : ℕ) → b < 128 → IsUtf8 (json_escaped b)
escaped_ascii b few = go (nat_eq b 34) (nat_eq b 92) (nat_eq b 10) (nat_eq b 13) (nat_eq b 9) (nat_lt b 32) refl
  where
    two : (x y : ℕ) → x < 128 → y < 128 → IsUtf8 (x ∷ y ∷ [])
    two x y p q = ascii_utf8 (x ∷ y ∷ []) (p, (q, tt))

    go : (p q r u v w : Bool) → nat_lt b 32 ≡ w
        → IsUtf8 (cond p (92 ∷ 34 ∷ []) (cond q (92 ∷ 92 ∷ []) (cond r (92 ∷ 110 ∷ []) (cond u (92 ∷ 114 ∷ []) (cond v (92 ∷ 116 ∷ [])
        (cond w (92 ∷ 117 ∷ 48 ∷ 48 ∷ hex_digit (b / 16) ∷ hex_digit (b % 16) ∷ []) (b ∷ [])))))))
    go true q r u v w e = two 92 34 (omega arith) (omega arith)
    go false true r u v w e = two 92 92 (omega arith) (omega arith)
    go false false true u v w e = two 92 110 (omega arith) (omega arith)
    go false false false true v w e = two 92 114 (omega arith) (omega arith)
    go false false false false true w e = two 92 116 (omega arith) (omega arith)
    go false false false false false true e =
        IsUtf8-append (92 ∷ 117 ∷ []) (48 ∷ 48 ∷ hex_digit (b / 16) ∷ hex_digit (b % 16) ∷ []) (two 92 117 (omega arith) (omega arith))
        (IsUtf8-append (48 ∷ 48 ∷ []) (hex_digit (b / 16) ∷ hex_digit (b % 16) ∷ []) (two 48 48 (omega arith) (omega arith))
        (two (hex_digit (b / 16)) (hex_digit (b % 16)) (digit_ascii (b / 16) (omega (arith, few))) (digit_ascii (b % 16) (omega arith))))
    go false false false false false false e = ascii_byte b few

-- ---- what is written for UTF-8

high_kept : (xs : List ℕ) → AllByRecursion (λ b. 128 ≤ b) xs → flat_map json_escaped xs ≡ xs
high_kept [] all = refl
high_kept (x ∷ xs) all = ap (λ (t : List ℕ). t ++ flat_map json_escaped xs) (kept all.0) ∙ ap (λ (t : List ℕ). x ∷ t) (high_kept xs all.1)
  where
    kept : 128 ≤ x → json_escaped x ≡ x ∷ []
    kept high = rw (
      ne_eqb x 34 (λ e. omega (arith, e, high)),
      ne_eqb x 92 (λ e. omega (arith, e, high)),
      ne_eqb x 10
          (λ e. omega (arith, e, high)),
      ne_eqb x 13 (λ e. omega (arith, e, high)),
      ne_eqb x 9 (λ e. omega (arith, e, high)),
      le-ltb x
          32 (omega (arith, high)),
    ) refl

-- beyond ASCII a character has no ASCII byte
encode_high : (c : ℕ) → 128 ≤ c → AllByRecursion (λ b. 128 ≤ b) (encode c)
unfolding encode
encode_high c high = rw (le-ltb c 128 high) (go (nat_lt c 2048) (nat_lt c 65536))
  where
    next : ℕ → ℕ
    next bits = 128 + bits % 64

    go : (p q : Bool) → AllByRecursion (λ b. 128 ≤ b) (cond p ((192 + c / 64) ∷ (128 + c % 64) ∷ [])
        (cond q ((224 + c / 4096) ∷ (128 + c / 64 % 64) ∷ (128 + c % 64) ∷ [])
        ((240 + c / 262144) ∷ (128 + c / 4096 % 64) ∷ (128 + c / 64 % 64) ∷ (128 + c % 64) ∷ [])))
    go true q = (omega arith, (omega arith, tt))
    go false true = (omega arith, (omega arith, (omega arith, tt)))
    go false false = (omega arith, (omega arith, (omega arith, (omega arith, tt))))

character_written : (c : ℕ) → scalar c ≡ true → IsUtf8 (flat_map json_escaped (encode c))
character_written c is = go (nat_lt c 128) refl
  where
    go : (t : Bool) → nat_lt c 128 ≡ t → IsUtf8 (flat_map json_escaped (encode c))
    go true e =
        let few = ltb-true c 128 e in
        subst (λ (t : List ℕ). IsUtf8 (flat_map json_escaped t)) (sym (encode_ascii c few))
        (subst IsUtf8 (sym (append-nil (json_escaped c))) (escaped_ascii c few))
    go false e = subst IsUtf8 (sym (high_kept (encode c) (encode_high c (ltb-false c 128 e)))) (IsUtf8-encode c is)

characters_written : (cs : List ℕ) → scalars cs ≡ true → IsUtf8 (flat_map json_escaped (encodes cs))
characters_written [] are = IsUtf8-nil
characters_written (c ∷ cs) are =
    let both = and_parts (scalar c) (scalars cs) are in
    subst IsUtf8 (sym (flat_map-append json_escaped (encode c) (encodes cs)))
    (IsUtf8-append (flat_map json_escaped (encode c)) (flat_map json_escaped (encodes cs)) (character_written c both.0)
    (characters_written cs both.1))

front_written : (xs : List ℕ) → IsUtf8 xs → IsUtf8 (flat_map json_escaped xs)
front_written xs (cs, (are, is)) = subst (λ (t : List ℕ). IsUtf8 (flat_map json_escaped t)) is (characters_written cs are)

-- ---- what is written for any bytes

valid_front : (bs : List ℕ) (n : ℕ) → IsUtf8 (take (valid_len_up_to bs n) bs)
valid_front bs zero = IsUtf8-nil
valid_front bs (suc n) = go (is_utf8 (take (suc n) bs)) refl (valid_front bs n)
  where
    go : (t : Bool) → is_utf8 (take (suc n) bs) ≡ t → IsUtf8 (take (valid_len_up_to bs n) bs)
        → IsUtf8 (take (cond t (suc n) (valid_len_up_to bs n)) bs)
    go true e h = IsUtf8-from_is_utf8 (take (suc n) bs) e
    go false e h = h

longest_is : (bs : List ℕ) → IsUtf8 (take (utf8_valid_len bs) bs)
unfolding utf8_valid_len
longest_is bs = valid_front bs (length bs)

bytes_left : (n : ℕ) (bs : List ℕ) → AreBytes bs → AreBytes (drop n bs)
bytes_left zero bs are = are
bytes_left (suc n) [] are = tt
bytes_left (suc n) (b ∷ bs) are = bytes_left n bs are.1

written : (most : ℕ) (bs : List ℕ) → length bs ≤ most → AreBytes bs → IsUtf8 (json_from 0 bs)
written most [] few are = IsUtf8-nil
written zero (b ∷ bs) few are = absurd (omega (arith, few))
written (suc most) (b ∷ bs) few are =
    go (nat_eq (utf8_valid_len (b ∷ bs)) 0) refl (written most bs (omega (arith, few)) are.1)
    (λ short. written most (drop (utf8_valid_len (b ∷ bs)) (b ∷ bs)) short (bytes_left (utf8_valid_len (b ∷ bs)) (b ∷ bs) are))
  where
    go : (t : Bool) → nat_eq (utf8_valid_len (b ∷ bs)) 0 ≡ t → IsUtf8 (json_from 0 bs)
        → (length (drop (utf8_valid_len (b ∷ bs)) (b ∷ bs)) ≤ most → IsUtf8 (json_from 0 (drop (utf8_valid_len (b ∷ bs)) (b ∷ bs))))
        → IsUtf8 (json_from 0 (b ∷ bs))
    go true e h i = subst IsUtf8 (rw e refl) (IsUtf8-append (stray b) (json_from 0 bs) (stray_ascii b are.0) h)
    go false e h i =
        let some = eqb-false (utf8_valid_len (b ∷ bs)) 0 e in
        subst IsUtf8 (sym (longest_kept (b ∷ bs) (utf8_valid_len_le (b ∷ bs)) some))
        (IsUtf8-append (flat_map json_escaped (take (utf8_valid_len (b ∷ bs)) (b ∷ bs)))
        (json_from 0 (drop (utf8_valid_len (b ∷ bs)) (b ∷ bs)))
        (front_written (take (utf8_valid_len (b ∷ bs)) (b ∷ bs)) (longest_is (b ∷ bs)))
        (i (omega (arith, few, some, length-drop (utf8_valid_len (b ∷ bs)) (b ∷ bs)))))

-- ---- records

number_ascii : (xs : List ℕ) → AllByRecursion IsNumberByte xs → AllByRecursion (λ b. b < 128) xs
number_ascii [] all = tt
number_ascii (x ∷ xs) all = (omega (arith, all.0.1), number_ascii xs all.1)

string_utf8 : (bytes : List ℕ) → AreBytes bytes → IsUtf8 (json_string bytes)
string_utf8 bytes are =
    IsUtf8-append (34 ∷ []) (json_from 0 bytes ++ 34 ∷ []) (ascii_byte 34 (omega arith))
    (IsUtf8-append (json_from 0 bytes) (34 ∷ []) (written (length bytes) bytes (omega arith) are) (ascii_byte 34 (omega arith)))

value_utf8 : (d : Option Datum) → IsGivenValue d → IsUtf8 (given_text Json d)
value_utf8 None is = ascii_utf8 (codes "null") (omega arith, (omega arith, (omega arith, (omega arith, tt))))
value_utf8 (Some (Number kind n)) is = ascii_utf8 (signed_decimal n) (number_ascii (signed_decimal n) (number_bytes n (bounded kind n is)))
value_utf8 (Some (Real r)) is = by (is_finite r)
  where
    by : (b : Bool) → IsUtf8 (cond (not b) (json_string (shortest_text r)) (shortest_text r))
    by true = ascii_utf8 (shortest_text r) (text_ascii (shortest_text r) (real_bytes r))
    by false = string_utf8 (shortest_text r) (real_are_bytes r)
value_utf8 (Some (Bytes bytes)) is = string_utf8 bytes is

values_utf8 : (row : List (Option Datum)) → AllByRecursion IsGivenValue row → IsUtf8 (join_with_byte 44 (map (given_text Json) row))
values_utf8 [] are = IsUtf8-nil
values_utf8 (d ∷ []) are = value_utf8 d are.0
values_utf8 (d ∷ e ∷ row) are =
    IsUtf8-append (given_text Json d) (44 ∷ join_with_byte 44 (map (given_text Json) (e ∷ row))) (value_utf8 d are.0)
    (IsUtf8-append (44 ∷ []) (join_with_byte 44 (map (given_text Json) (e ∷ row))) (ascii_byte 44 (omega arith))
    (values_utf8 (e ∷ row) are.1))

row_utf8 : (row : List (Option Datum)) → AllByRecursion IsGivenValue row → IsUtf8 (given_row_text Json row)
row_utf8 row are =
    IsUtf8-append (91 ∷ []) (join_with_byte 44 (map (given_text Json) row) ++ (93 ∷ 10 ∷ [])) (ascii_byte 91 (omega arith))
    (IsUtf8-append (join_with_byte 44 (map (given_text Json) row)) (93 ∷ 10 ∷ []) (values_utf8 row are)
    (ascii_utf8 (93 ∷ 10 ∷ []) (omega arith, (omega arith, tt))))

pub given_utf8 : GivenJsonIsUtf8
given_utf8 [] are = IsUtf8-nil
given_utf8 (row ∷ rows) are = IsUtf8-append (given_row_text Json row) (flat_map (given_row_text Json) rows) (row_utf8 row are.0)
    (given_utf8 rows are.1)

pub arrays_utf8 : JsonIsUtf8
arrays_utf8 rows are = subst IsUtf8 (sym (rows_given Json rows)) (given_utf8 (map (map Some) rows) (rows_are_given rows are))
