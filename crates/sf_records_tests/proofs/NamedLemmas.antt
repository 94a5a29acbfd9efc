-- How the record of a report reads back under names.
use Rattle.std.proofs.Common.{◌≡◌, ◌++◌, ℕ, zero, suc, ◌+◌, List, [], ◌∷◌, length, map, false, Option, Some, None}
use Rattle.std.proofs.Common.{refl, sym, ap, ◌∙◌, append-nil}
use Rattle.std.specs.Prelude.{IfSome}
use Rattle.std.specs.List.{AllByRecursion}
use Rattle.sf_base.specs.Bytes.{AreBytes}
use Rattle.sf_base.specs.Data.{Assigned, Datum, datum_at}
use Rattle.sf_format.specs.Slots.{slots_from}
use Rattle.sf_forms.specs.declared.form.OutputForm.{OutputForm}
use Rattle.sf_forms.specs.declared.form.OutputForm.TheVariants.{Csv, Json}
use Rattle.sf_forms.specs.Csv.{csv_rows}
use Rattle.sf_forms.specs.Forms.{row_text}
use Rattle.sf_forms.specs.Heads.{Heading, headed_text, header_text, names_line, object_row}
use Rattle.sf_forms.specs.JsonReading.{element_of, json_objects}
use Rattle.sf_forms.specs.ReadingBack.{CsvNamesReadBack, HeadedRecordsAreRows, IsValue, JsonObjectsReadBack, text_of_value, with_names}
use Rattle.sf_run.specs.Rows.{AreRowOf}
use Rattle.sf_run.specs.Runs.{RunReport}
use Rattle.sf_records_tests.proofs.WrittenLemmas.{mapped_length}

pub mapped : {A : Type 0} {P Q : A → Type 0} (o : Option A) → ((a : A) → P a → Q a) → IfSome o P → IfSome o Q
mapped None f h = tt
mapped (Some a) f h = f a h

slots_length : (place n : ℕ) → length (slots_from place n) ≡ n
slots_length place zero = refl
slots_length place (suc n) = ap suc (slots_length (place + 1) n)

-- as many values as slots
pub row_length : (n : ℕ) (row : List Datum) (values : List Assigned) → AreRowOf n row values → length row ≡ n
row_length n row values is =
    let some : Datum → Option Datum = λ d. Some d in
    sym (mapped_length some row) ∙ ap (λ (given : List (Option Datum)). length given) is
    ∙ mapped_length (λ slot. datum_at slot values) (slots_from 1 n) ∙ slots_length 1 n

-- names, and no number of a format
abbrev pub under : OutputForm → List (List ℕ) → Heading
under form names = record { form = form; names = Some names; tagged = false }

module _ (rows : HeadedRecordsAreRows) (names : List (List ℕ)) (bytes : AllByRecursion AreBytes names) (n : ℕ) (r : RunReport)
    (row : List Datum) (is_row : AreRowOf n row r.values) (are : AllByRecursion IsValue row) where
  pub titled : CsvNamesReadBack → (text : List ℕ) → text ≡ header_text (under Csv names) ++ headed_text (under Csv names) 1 n r
      → csv_rows text ≡ Some (names ∷ map text_of_value row ∷ [])
  titled law text is =
      ap csv_rows (is ∙ ap (λ (t : List ℕ). names_line Csv names ++ t)
      (rows (under Csv names) 1 n row r is_row ∙ sym (append-nil (row_text Csv row)))) ∙ law names (row ∷ []) bytes (are, tt)

  pub object : JsonObjectsReadBack → length row ≡ length names → (text : List ℕ)
      → text ≡ header_text (under Json names) ++ headed_text (under Json names) 1 n r
      → json_objects text ≡ Some (with_names names (map element_of row) ∷ [])
  object law even text is =
      ap json_objects (is ∙ rows (under Json names) 1 n row r is_row ∙ sym (append-nil (object_row names row)))
      ∙ law names (row ∷ []) bytes (are, tt) (even, tt)
