-- What a table's text reads as.
use lib.Ieee.Bits.{of_bits-to_bits, to_bits-lt}
use Rattle.std.proofs.Common.{◌≡◌, ℕ, ◌≤◌, Bool, true, false, cond, nat_eq, List, [], ◌∷◌, ◌++◌, map, append_assoc, refl, sym, ap, subst}
use Rattle.std.proofs.Common.{Option, Some, None, ◌<◌, ◌^◌}
use Rattle.std.proofs.Common.{◌∙◌, arith}
use Rattle.std.proofs.lemmas.Bool.{eqb-true, ne_eqb}
use Rattle.std.specs.Float.Ieee.{Float, Format, fits, binary32, binary64}
use Rattle.std.specs.Float.Parse.{parse_float}
use Rattle.std.specs.Fmt.{signed_decimal}
use Rattle.std.specs.Option.{option_map_or}
use Rattle.std.specs.Prelude.{T, from_bits, to_bits}
use Rattle.std.specs.List.{AllByRecursion, flat_map, join_with_byte}
use Rattle.sf_base.specs.declared.values.Kind.{Kind}
use Rattle.sf_base.specs.declared.values.Kind.TheVariants.{I8, I16, I32, I64, U8, U16, U32, U64, Text, F32, F64}
use Rattle.sf_base.specs.declared.real.Real.TheVariants as reals
use Rattle.sf_base.specs.Data.{Datum, Number, Bytes, Real, kind_of}
use Rattle.sf_float.specs.fewest.Laid.{shortest_text}
use Rattle.sf_float.specs.fewest.Laws.{ReadsBack}
use Rattle.sf_forms.specs.declared.form.OutputForm.TheVariants.{Tsv}
use Rattle.sf_forms.specs.Forms.{given_row_text, given_text}
use Rattle.sf_forms.specs.ReadingBack.{AreRows, HaveKinds, IsGivenValue, IsValue, TsvGivesTexts, TsvNamesReadBack}
use Rattle.sf_forms.specs.ReadingBack.{TsvReadsBack, table_fields, text_given, text_of_value}
use Rattle.sf_base.specs.Bytes.{AreBytes}
use Rattle.sf_forms.specs.Tables.{Table, datum_of_field, pattern_in, table_from, tsv_escaped, tsv_rows, tsv_text, values_of, with_byte}
use Rattle.sf_forms.specs.Tables.{with_field}
use Rattle.sf_forms.proofs.Givens.{are_given, row_given, rows_are_given, rows_given, through_some}
use Rattle.sf_forms.proofs.Decimals.{bounded, number_back, number_bytes}
use Rattle.sf_forms.proofs.Floats.{IsTextByte, number_text, real_bytes}

-- ---- bytes

byte_read : (b : ℕ) (text : List ℕ) → table_from false (tsv_escaped b ++ text) ≡ with_byte b (table_from false text)
byte_read b text = go (nat_eq b 92) (nat_eq b 9) (nat_eq b 10) (nat_eq b 13) refl refl refl refl
  where
    known : (k : ℕ) → nat_eq b k ≡ true → with_byte k (table_from false text) ≡ with_byte b (table_from false text)
    known k e = ap (λ (c : ℕ). with_byte c (table_from false text)) (sym (eqb-true b k e))

    go : (p q r s : Bool) → nat_eq b 92 ≡ p → nat_eq b 9 ≡ q → nat_eq b 10 ≡ r → nat_eq b 13 ≡ s
        → table_from false (cond p (92 ∷ 92 ∷ []) (cond q (92 ∷ 116 ∷ []) (cond r (92 ∷ 110 ∷ []) (cond s (92 ∷ 114 ∷ []) (b ∷ []))))
        ++ text) ≡ with_byte b (table_from false text)
    go true q r s e f g h = known 92 e
    go false true r s e f g h = known 9 f
    go false false true s e f g h = known 10 g
    go false false false true e f g h = known 13 h
    go false false false false e f g h = rw (e, f, g) refl

-- these bytes in front of the first field
with_bytes : List ℕ → Table → Table
with_bytes [] table = table
with_bytes (b ∷ bytes) table = with_byte b (with_bytes bytes table)

bytes_read : (bytes text : List ℕ) → table_from false (tsv_text bytes ++ text) ≡ with_bytes bytes (table_from false text)
unfolding with_bytes
bytes_read [] text = refl
bytes_read (b ∷ bytes) text =
    ap (table_from false) (append_assoc (tsv_escaped b) (tsv_text bytes) text) ∙ byte_read b (tsv_text bytes ++ text)
    ∙ ap (with_byte b) (bytes_read bytes text)

first_field : (bytes : List ℕ) (fields : List (List ℕ)) (records : Table)
    → with_bytes bytes (([] ∷ fields) ∷ records) ≡ (bytes ∷ fields) ∷ records
unfolding with_bytes
first_field [] fields records = refl
first_field (b ∷ bytes) fields records = ap (with_byte b) (first_field bytes fields records)

-- ---- fields

text_kept : (bytes : List ℕ) → AllByRecursion IsTextByte bytes → tsv_text bytes ≡ bytes
text_kept [] all = refl
text_kept (b ∷ bytes) all =
    ap (λ (t : List ℕ). t ++ tsv_text bytes) (kept all.0.0 all.0.2) ∙ ap (λ (t : List ℕ). b ∷ t) (text_kept bytes all.1)
  where
    kept : 45 ≤ b → (b ≡ 92 → ⊥) → tsv_escaped b ≡ b ∷ []
    kept low other = rw (
      ne_eqb b 92 other,
      ne_eqb b 9 (λ e. omega (arith, e, low)),
      ne_eqb b 10
          (λ e. omega (arith, e, low)),
      ne_eqb b 13 (λ e. omega (arith, e, low)),
    ) refl

kept_read : (bytes : List ℕ) → AllByRecursion IsTextByte bytes → (text : List ℕ)
    → table_from false (bytes ++ text) ≡ with_bytes bytes (table_from false text)
kept_read bytes all text = ap (λ (t : List ℕ). table_from false (t ++ text)) (sym (text_kept bytes all)) ∙ bytes_read bytes text

field_read : (d : Option Datum) → IsGivenValue d → (text : List ℕ)
    → table_from false (given_text Tsv d ++ text) ≡ with_bytes (text_given d) (table_from false text)
unfolding with_bytes
field_read None is text = refl
field_read (Some (Number kind n)) is text =
    kept_read (signed_decimal n) (number_text (signed_decimal n) (number_bytes n (bounded kind n is))) text
field_read (Some (Bytes bytes)) is text = bytes_read bytes text
field_read (Some (Real r)) is text = kept_read (shortest_text r) (real_bytes r) text

-- ---- records

fields_read : (d : Option Datum) (row : List (Option Datum)) → AllByRecursion IsGivenValue (d ∷ row) → (text : List ℕ)
    → table_from false (join_with_byte 9 (map (given_text Tsv) (d ∷ row)) ++ (10 ∷ text))
    ≡ map text_given (d ∷ row) ∷ table_from false text
fields_read d [] are text = field_read d are.0 (10 ∷ text) ∙ first_field (text_given d) [] (table_from false text)
fields_read d (e ∷ row) are text =
    let rest : List ℕ = join_with_byte 9 (map (given_text Tsv) (e ∷ row)) in
    ap (table_from false) (append_assoc (given_text Tsv d) (9 ∷ rest) (10 ∷ text)) ∙ field_read d are.0 (9 ∷ (rest ++ (10 ∷ text)))
    ∙ ap (λ (t : Table). with_bytes (text_given d) (with_field t)) (fields_read e row are.1 text)
    ∙ first_field (text_given d) (map text_given (e ∷ row)) (table_from false text)

-- a record in front of a text
record_read : (row : List (Option Datum)) → AllByRecursion IsGivenValue row → (text : List ℕ)
    → table_from false (given_row_text Tsv row ++ text) ≡ table_fields row ∷ table_from false text
record_read [] are text = refl
record_read (d ∷ row) are text =
    ap (table_from false) (append_assoc (join_with_byte 9 (map (given_text Tsv) (d ∷ row))) (10 ∷ []) text) ∙ fields_read d row are text

pub texts_back : TsvGivesTexts
texts_back [] are = refl
texts_back (row ∷ rows) are =
    record_read row are.0 (flat_map (given_row_text Tsv) rows)
    ∙ ap (λ (t : Table). table_fields row ∷ t) (texts_back rows are.1)

-- ---- values

-- the pattern of a float that is read as it
pattern_back : (f : Format) (bits : ℕ) (text : List ℕ) → (x : Float) × T (fits f x) × (bits ≡ to_bits f x)
    → parse_float f text ≡ Some (from_bits f bits) → pattern_in f text ≡ bits
pattern_back f bits text (x, held, is) read =
    ap (λ (r : Option Float). option_map_or (to_bits f) r 0) read ∙ ap (λ (b : ℕ). to_bits f (from_bits f b)) is
    ∙ ap (to_bits f) (of_bits-to_bits f x held) ∙ sym is

module _ (reads : ReadsBack) where
  datum_back : (d : Datum) → IsValue d → datum_of_field (kind_of d) (text_of_value d) ≡ d
  datum_back (Bytes bytes) is = refl
  datum_back (Real (reals.F32 bits)) is =
      let few : bits < 2 ^ 32 = subst (λ (b : ℕ). b < 2 ^ 32) (sym is.2) (to_bits-lt binary32 is.0 is.1) in
      ap (λ (b : ℕ). Real (reals.F32 b)) (pattern_back binary32 bits (shortest_text (reals.F32 bits)) is (reads (reals.F32 bits) few))
  datum_back (Real (reals.F64 bits)) is =
      let few : bits < 2 ^ 64 = subst (λ (b : ℕ). b < 2 ^ 64) (sym is.2) (to_bits-lt binary64 is.0 is.1) in
      ap (λ (b : ℕ). Real (reals.F64 b)) (pattern_back binary64 bits (shortest_text (reals.F64 bits)) is (reads (reals.F64 bits) few))
  datum_back (Number I8 n) is = ap (Number I8) (number_back n (bounded I8 n is))
  datum_back (Number I16 n) is = ap (Number I16) (number_back n (bounded I16 n is))
  datum_back (Number I32 n) is = ap (Number I32) (number_back n (bounded I32 n is))
  datum_back (Number I64 n) is = ap (Number I64) (number_back n (bounded I64 n is))
  datum_back (Number U8 n) is = ap (Number U8) (number_back n (bounded U8 n is))
  datum_back (Number U16 n) is = ap (Number U16) (number_back n (bounded U16 n is))
  datum_back (Number U32 n) is = ap (Number U32) (number_back n (bounded U32 n is))
  datum_back (Number U64 n) is = ap (Number U64) (number_back n (bounded U64 n is))
  datum_back (Number Text n) is = absurd is
  datum_back (Number F32 n) is = absurd is
  datum_back (Number F64 n) is = absurd is

  values_back : (row : List Datum) → AllByRecursion IsValue row → values_of (map kind_of row) (map text_of_value row) ≡ row
  values_back [] are = refl
  values_back (d ∷ row) are =
      ap (λ (v : Datum). v ∷ values_of (map kind_of row) (map text_of_value row)) (datum_back d are.0)
      ∙ ap (λ (vs : List Datum). d ∷ vs) (values_back row are.1)

  -- of the fields of a record
  row_back : (row : List Datum) → AllByRecursion IsValue row → values_of (map kind_of row) (table_fields (map Some row)) ≡ row
  row_back [] are = refl
  row_back (d ∷ row) are =
      ap (values_of (map kind_of (d ∷ row))) (through_some text_given text_of_value (λ d. refl) (d ∷ row)) ∙ values_back (d ∷ row) are

  rows_back : (kinds : List Kind) (rows : List (List Datum)) → AreRows rows → HaveKinds kinds rows
      → map (values_of kinds) (map table_fields (map (map Some) rows)) ≡ rows
  rows_back kinds [] are have = refl
  rows_back kinds (row ∷ rows) are have =
      let fields : List (List ℕ) = table_fields (map Some row) in
      ap (λ (v : List Datum). v ∷ map (values_of kinds) (map table_fields (map (map Some) rows)))
      (subst (λ (ks : List Kind). values_of ks fields ≡ row) have.0 (row_back row are.0))
      ∙ ap (λ (vs : List (List Datum)). row ∷ vs) (rows_back kinds rows are.1 have.1)

  pub table_back : TsvReadsBack
  table_back kinds rows are have =
      ap (tsv_rows kinds) (rows_given Tsv rows)
      ∙ ap (map (values_of kinds)) (texts_back (map (map Some) rows) (rows_are_given rows are)) ∙ rows_back kinds rows are have

-- ---- names

names_are : (names : List (List ℕ)) → AllByRecursion AreBytes names → AllByRecursion IsValue (map Bytes names)
names_are [] are = tt
names_are (name ∷ names) are = (are.0, names_are names are.1)

names_back : (names : List (List ℕ)) → map text_given (map Some (map Bytes names)) ≡ names
names_back [] = refl
names_back (name ∷ names) = ap (λ (t : List (List ℕ)). name ∷ t) (names_back names)

pub names_read : TsvNamesReadBack
names_read [] text are some = absurd (omega (arith, some))
names_read (name ∷ names) text are some =
    ap (λ (t : List ℕ). table_from false (t ++ text)) (row_given Tsv (map Bytes (name ∷ names)))
    ∙ record_read (map Some (map Bytes (name ∷ names))) (are_given (map Bytes (name ∷ names)) (names_are (name ∷ names) are)) text
    ∙ ap (λ (t : List (List ℕ)). t ∷ table_from false text) (names_back (name ∷ names))
