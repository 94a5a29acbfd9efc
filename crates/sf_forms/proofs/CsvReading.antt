-- What a text of rows of comma-separated values reads as.
use Rattle.std.proofs.Common.{◌≡◌, ◌⊎◌, inl, inr, ℕ, Bool, true, false, ◌&&◌, not, cond, nat_eq, List, [], ◌∷◌, ◌++◌, map, append_assoc}
use Rattle.std.proofs.Common.{Option, Some, None, length, refl, sym, ap, ◌∙◌, arith}
use Rattle.std.proofs.lemmas.Bool.{and_parts, eqb-true, ne_eqb, not-true}
use Rattle.std.proofs.lemmas.List.{append-nil}
use Rattle.std.specs.Fmt.{signed_decimal}
use Rattle.std.specs.List.{AllByRecursion, flat_map, join_with_byte, list_all}
use Rattle.sf_base.specs.Data.{Datum, Number, Bytes, Real}
use Rattle.sf_float.specs.fewest.Laid.{shortest_text}
use Rattle.sf_forms.specs.declared.form.OutputForm.TheVariants.{Csv}
use Rattle.sf_forms.specs.Csv.{InBare, InQuotes, Opened, Outside, Behind, Place, Reader, after, csv_escaped, in_bare, is_bare}
use Rattle.sf_forms.specs.Csv.{csv_rows, opened, rows_in, step_at, with_byte}
use Rattle.sf_forms.specs.Forms.{given_row_text, given_text}
use Rattle.sf_forms.specs.ReadingBack.{AreGivenRows, CsvGivesTexts, CsvNamesReadBack, CsvReadsBack, IsGivenValue, IsValue}
use Rattle.sf_forms.specs.ReadingBack.{text_given, text_of_value}
use Rattle.sf_base.specs.Bytes.{AreBytes}
use Rattle.sf_forms.proofs.Decimals.{bounded, number_bytes}
use Rattle.sf_forms.proofs.Floats.{IsTextByte, number_text, real_bytes}
use Rattle.sf_forms.proofs.Givens.{rows_are_given, rows_given, through_rows}

-- a reader that has read these records, these fields, and these bytes of a field
abbrev with_field : List (List (List ℕ)) → List (List ℕ) → List ℕ → Place → Reader
with_field rows row field place = record { rows = rows; row = row; field = field; place = place }

-- ---- bytes

bare_step : (s : Reader) (b : ℕ) → is_bare b ≡ true → in_bare s b ≡ with_byte InBare b s
bare_step s b e =
    let p = and_parts (not (nat_eq b 44)) (not (nat_eq b 34) && (not (nat_eq b 10) && not (nat_eq b 13))) e in
    let q = and_parts (not (nat_eq b 34)) (not (nat_eq b 10) && not (nat_eq b 13)) p.1 in
    let r = and_parts (not (nat_eq b 10)) (not (nat_eq b 13)) q.1 in
    rw (not-true (nat_eq b 44) p.0, not-true (nat_eq b 10) r.0, not-true (nat_eq b 34) q.0, not-true (nat_eq b 13) r.1) refl

opened_step : (s : Reader) (b : ℕ) → is_bare b ≡ true → opened s b ≡ with_byte InBare b s
opened_step s b e =
    let p = and_parts (not (nat_eq b 44)) (not (nat_eq b 34) && (not (nat_eq b 10) && not (nat_eq b 13))) e in
    let q = and_parts (not (nat_eq b 34)) (not (nat_eq b 10) && not (nat_eq b 13)) p.1 in
    let r = and_parts (not (nat_eq b 10)) (not (nat_eq b 13)) q.1 in
    rw (not-true (nat_eq b 34) q.0, not-true (nat_eq b 44) p.0, not-true (nat_eq b 10) r.0, not-true (nat_eq b 13) r.1) refl

-- a byte between quotes that is none
between_step : (s : Reader) (b : ℕ) → nat_eq b 34 ≡ false → step_at InQuotes s b ≡ with_byte InQuotes b s
between_step s b e = rw e refl

bare_is_no_end : (b : ℕ) → is_bare b ≡ true → nat_eq b 10 ≡ false
bare_is_no_end b e =
    let p = and_parts (not (nat_eq b 44)) (not (nat_eq b 34) && (not (nat_eq b 10) && not (nat_eq b 13))) e in
    let q = and_parts (not (nat_eq b 34)) (not (nat_eq b 10) && not (nat_eq b 13)) p.1 in
    let r = and_parts (not (nat_eq b 10)) (not (nat_eq b 13)) q.1 in
    not-true (nat_eq b 10) r.0

bare_read : (rows : List (List (List ℕ))) (row : List (List ℕ)) (field bytes rest : List ℕ) → list_all is_bare bytes ≡ true
    → after (with_field rows row field InBare) (bytes ++ rest) ≡ after (with_field rows row (field ++ bytes) InBare) rest
bare_read rows row field [] rest e = ap (λ (f : List ℕ). after (with_field rows row f InBare) rest) (sym (append-nil field))
bare_read rows row field (b ∷ bytes) rest e =
    let w = and_parts (is_bare b) (list_all is_bare bytes) e in
    ap (λ (s : Reader). after s (bytes ++ rest)) (bare_step (with_field rows row field InBare) b w.0)
    ∙ bare_read rows row (field ++ b ∷ []) bytes rest w.1
    ∙ ap (λ (f : List ℕ). after (with_field rows row f InBare) rest) (append_assoc field (b ∷ []) bytes)

quotes_read : (rows : List (List (List ℕ))) (row : List (List ℕ)) (field bytes rest : List ℕ)
    → after (with_field rows row field InQuotes) (flat_map csv_escaped bytes ++ 34 ∷ rest)
    ≡ after (with_field rows row (field ++ bytes) Behind) rest
quotes_read rows row field [] rest = ap (λ (f : List ℕ). after (with_field rows row f Behind) rest) (sym (append-nil field))
quotes_read rows row field (b ∷ bytes) rest =
    go (nat_eq b 34) refl ∙ quotes_read rows row (field ++ b ∷ []) bytes rest
    ∙ ap (λ (f : List ℕ). after (with_field rows row f Behind) rest) (append_assoc field (b ∷ []) bytes)
  where
    go : (t : Bool) → nat_eq b 34 ≡ t
        → after (with_field rows row field InQuotes) ((cond t (34 ∷ 34 ∷ []) (b ∷ []) ++ flat_map csv_escaped bytes) ++ 34 ∷ rest)
        ≡ after (with_field rows row (field ++ b ∷ []) InQuotes) (flat_map csv_escaped bytes ++ 34 ∷ rest)
    go true e =
        ap (λ (c : ℕ). after (with_field rows row (field ++ c ∷ []) InQuotes) (flat_map csv_escaped bytes ++ 34 ∷ rest))
        (sym (eqb-true b 34 e))
    go false e =
        ap (λ (s : Reader). after s (flat_map csv_escaped bytes ++ 34 ∷ rest)) (between_step (with_field rows row field InQuotes) b e)

-- ---- fields

-- a text that is written so: as it is, or between quotes
abbrev Stands : List ℕ → List ℕ → Type 0
Stands bytes text = ((list_all is_bare bytes ≡ true) × (text ≡ bytes)) ⊎ (text ≡ 34 ∷ (flat_map csv_escaped bytes ++ 34 ∷ []))

text_bare : (bytes : List ℕ) → AllByRecursion IsTextByte bytes → list_all is_bare bytes ≡ true
text_bare [] all = refl
text_bare (b ∷ bytes) all =
    rw (
      ne_eqb b 44 (λ e. omega (arith, e, all.0.0)),
      ne_eqb b 34 (λ e. omega (arith, e, all.0.0)),
      ne_eqb b 10 (λ e. omega (arith, e, all.0.0)),
      ne_eqb b 13 (λ e. omega (arith, e, all.0.0)),
    ) (text_bare bytes all.1)

stands : (d : Option Datum) → IsGivenValue d → Stands (text_given d) (given_text Csv d)
stands None is = inl (refl, refl)
stands (Some (Number kind n)) is =
    inl (text_bare (signed_decimal n) (number_text (signed_decimal n) (number_bytes n (bounded kind n is))), refl)
stands (Some (Real r)) is = inl (text_bare (shortest_text r) (real_bytes r), refl)
stands (Some (Bytes bytes)) is = go (list_all is_bare bytes) refl
  where
    go : (t : Bool) → list_all is_bare bytes ≡ t → Stands bytes (cond t bytes (34 ∷ (flat_map csv_escaped bytes ++ 34 ∷ [])))
    go true e = inl (e, refl)
    go false e = inr refl

-- a place before a field, where any byte but the end of a line begins it
abbrev IsReady : Place → Type 0
IsReady place = (s : Reader) (b : ℕ) → nat_eq b 10 ≡ false → step_at place s b ≡ opened s b

opened_ready : IsReady Opened
opened_ready s b e = refl

outside_ready : IsReady Outside
outside_ready s b e = rw e refl

bare_field : (rows : List (List (List ℕ))) (row : List (List ℕ)) (place : Place) → IsReady place → (b : ℕ) (bytes rest : List ℕ)
    → list_all is_bare (b ∷ bytes) ≡ true
    → after (with_field rows row [] place) (b ∷ (bytes ++ rest)) ≡ after (with_field rows row (b ∷ bytes) InBare) rest
bare_field rows row place ready b bytes rest e =
    let w = and_parts (is_bare b) (list_all is_bare bytes) e in
    let s : Reader = with_field rows row [] place in
    ap (λ (r : Reader). after r (bytes ++ rest)) (ready s b (bare_is_no_end b w.0) ∙ opened_step s b w.0)
    ∙ bare_read rows row (b ∷ []) bytes rest w.1

quoted_field : (rows : List (List (List ℕ))) (row : List (List ℕ)) (place : Place) → IsReady place → (bytes rest : List ℕ)
    → after (with_field rows row [] place) ((34 ∷ (flat_map csv_escaped bytes ++ 34 ∷ [])) ++ rest)
    ≡ after (with_field rows row bytes Behind) rest
quoted_field rows row place ready bytes rest =
    let s : Reader = with_field rows row [] place in
    ap (λ (r : Reader). after r ((flat_map csv_escaped bytes ++ 34 ∷ []) ++ rest)) (ready s 34 refl)
    ∙ ap (after (with_field rows row [] InQuotes)) (append_assoc (flat_map csv_escaped bytes) (34 ∷ []) rest)
    ∙ quotes_read rows row [] bytes rest

-- a field and a comma
comma_read : (rows : List (List (List ℕ))) (row : List (List ℕ)) (place : Place) → IsReady place → (bytes text rest : List ℕ)
    → Stands bytes text
    → after (with_field rows row [] place) (text ++ 44 ∷ rest) ≡ after (with_field rows (row ++ bytes ∷ []) [] Opened) rest
comma_read rows row place ready [] text rest (inl (bare, is)) =
    ap (λ (t : List ℕ). after (with_field rows row [] place) (t ++ 44 ∷ rest)) is
    ∙ ap (λ (r : Reader). after r rest) (ready (with_field rows row [] place) 44 refl)
comma_read rows row place ready (b ∷ bytes) text rest (inl (bare, is)) =
    ap (λ (t : List ℕ). after (with_field rows row [] place) (t ++ 44 ∷ rest)) is
    ∙ bare_field rows row place ready b bytes (44 ∷ rest) bare
comma_read rows row place ready bytes text rest (inr is) =
    ap (λ (t : List ℕ). after (with_field rows row [] place) (t ++ 44 ∷ rest)) is ∙ quoted_field rows row place ready bytes (44 ∷ rest)

-- a field and the end of a line, where the place isn't before a record or the text has a byte
end_read : (rows : List (List (List ℕ))) (row : List (List ℕ)) (place : Place) → IsReady place → (bytes text rest : List ℕ)
    → Stands bytes text → (text ≡ [] → place ≡ Opened)
    → after (with_field rows row [] place) (text ++ 10 ∷ rest)
    ≡ after (with_field (rows ++ (row ++ bytes ∷ []) ∷ []) [] [] Outside) rest
end_read rows row place ready [] text rest (inl (bare, is)) some =
    ap (λ (t : List ℕ). after (with_field rows row [] place) (t ++ 10 ∷ rest)) is
    ∙ ap (λ (p : Place). after (with_field rows row [] p) (10 ∷ rest)) (some is)
end_read rows row place ready (b ∷ bytes) text rest (inl (bare, is)) some =
    ap (λ (t : List ℕ). after (with_field rows row [] place) (t ++ 10 ∷ rest)) is
    ∙ bare_field rows row place ready b bytes (10 ∷ rest) bare
end_read rows row place ready bytes text rest (inr is) some =
    ap (λ (t : List ℕ). after (with_field rows row [] place) (t ++ 10 ∷ rest)) is ∙ quoted_field rows row place ready bytes (10 ∷ rest)

-- ---- records

-- fields after a comma
fields_read : (rows : List (List (List ℕ))) (row : List (List ℕ)) (d : Option Datum) (more : List (Option Datum))
    → AllByRecursion IsGivenValue (d ∷ more)
    → (rest : List ℕ)
    → after (with_field rows row [] Opened) (join_with_byte 44 (map (given_text Csv) (d ∷ more)) ++ 10 ∷ rest)
    ≡ after (with_field (rows ++ (row ++ map text_given (d ∷ more)) ∷ []) [] [] Outside) rest
fields_read rows row d [] are rest =
    end_read rows row Opened opened_ready (text_given d) (given_text Csv d) rest (stands d are.0) (λ none. refl)
fields_read rows row d (e ∷ more) are rest =
    let others : List ℕ = join_with_byte 44 (map (given_text Csv) (e ∷ more)) in
    ap (after (with_field rows row [] Opened)) (append_assoc (given_text Csv d) (44 ∷ others) (10 ∷ rest))
    ∙ comma_read rows row Opened opened_ready (text_given d) (given_text Csv d) (others ++ 10 ∷ rest) (stands d are.0)
    ∙ fields_read rows (row ++ text_given d ∷ []) e more are.1 rest
    ∙ ap (λ (t : List (List ℕ)). after (with_field (rows ++ t ∷ []) [] [] Outside) rest)
    (append_assoc row (text_given d ∷ []) (map text_given (e ∷ more)))

-- the one column of a record
lone_read : (rows : List (List (List ℕ))) (bytes text rest : List ℕ) → Stands bytes text
    → after (with_field rows [] [] Outside) ((text ++ (cond (nat_eq (length text) 0) (34 ∷ 34 ∷ []) [] ++ 10 ∷ [])) ++ rest)
    ≡ after (with_field (rows ++ (bytes ∷ []) ∷ []) [] [] Outside) rest
lone_read rows bytes [] rest (inl (bare, is)) =
    ap (λ (t : List ℕ). after (with_field (rows ++ (t ∷ []) ∷ []) [] [] Outside) rest) is
lone_read rows bytes (c ∷ text) rest how =
    ap (λ (t : List ℕ). after (with_field rows [] [] Outside) (((c ∷ text) ++ (t ++ 10 ∷ [])) ++ rest)) no_quotes
    ∙ ap (after (with_field rows [] [] Outside)) (append_assoc (c ∷ text) (10 ∷ []) rest)
    ∙ end_read rows [] Outside outside_ready bytes (c ∷ text) rest how (λ none. absurd (some none))
  where
    no_quotes : cond {A = List ℕ} (nat_eq (length (c ∷ text)) 0) (34 ∷ 34 ∷ []) [] ≡ []
    no_quotes = rw (ne_eqb (length (c ∷ text)) 0 (λ e. omega (arith, e))) refl

    some : c ∷ text ≡ [] → ⊥
    some e = omega (arith, ap length e)
lone_read rows bytes [] rest (inr is) = absurd (omega (arith, ap length is))

record_read : (rows : List (List (List ℕ))) (row : List (Option Datum)) → AllByRecursion IsGivenValue row → (text : List ℕ)
    → after (with_field rows [] [] Outside) (given_row_text Csv row ++ text)
    ≡ after (with_field (rows ++ map text_given row ∷ []) [] [] Outside) text
record_read rows [] are text = refl
record_read rows (d ∷ []) are text = lone_read rows (text_given d) (given_text Csv d) text (stands d are.0)
record_read rows (d ∷ e ∷ more) are text =
    let others : List ℕ = join_with_byte 44 (map (given_text Csv) (e ∷ more)) in
    ap (after (with_field rows [] [] Outside)) (append_assoc (given_text Csv d ++ (44 ∷ others)) (10 ∷ []) text
    ∙ append_assoc (given_text Csv d) (44 ∷ others) (10 ∷ text))
    ∙ comma_read rows [] Outside outside_ready (text_given d) (given_text Csv d) (others ++ 10 ∷ text) (stands d are.0)
    ∙ fields_read rows (text_given d ∷ []) e more are.1 text

records_read : (rows : List (List (List ℕ))) (more : List (List (Option Datum))) → AreGivenRows more
    → after (with_field rows [] [] Outside) (flat_map (given_row_text Csv) more)
    ≡ with_field (rows ++ map (map text_given) more) [] [] Outside
records_read rows [] are = ap (λ (t : List (List (List ℕ))). with_field t [] [] Outside) (sym (append-nil rows))
records_read rows (row ∷ more) are =
    record_read rows row are.0 (flat_map (given_row_text Csv) more) ∙ records_read (rows ++ map text_given row ∷ []) more are.1
    ∙ ap (λ (t : List (List (List ℕ))). with_field t [] [] Outside)
    (append_assoc rows (map text_given row ∷ []) (map (map text_given) more))

pub texts_back : CsvGivesTexts
texts_back rows are = ap (λ (s : Reader). rows_in s.place s) (records_read [] rows are)

pub rows_back : CsvReadsBack
rows_back rows are =
    ap csv_rows (rows_given Csv rows) ∙ texts_back (map (map Some) rows) (rows_are_given rows are)
    ∙ ap (λ (t : List (List (List ℕ))). Some t) (through_rows text_given text_of_value (λ d. refl) rows)

-- ---- names

names_are : (names : List (List ℕ)) → AllByRecursion AreBytes names → AllByRecursion IsValue (map Bytes names)
names_are [] are = tt
names_are (name ∷ names) are = (are.0, names_are names are.1)

names_back : (names : List (List ℕ)) → map text_of_value (map Bytes names) ≡ names
names_back [] = refl
names_back (name ∷ names) = ap (λ (t : List (List ℕ)). name ∷ t) (names_back names)

pub names_read : CsvNamesReadBack
names_read names rows are are_rows =
    rows_back (map Bytes names ∷ rows) (names_are names are, are_rows)
    ∙ ap (λ (t : List (List ℕ)). Some (t ∷ map (map text_of_value) rows)) (names_back names)
