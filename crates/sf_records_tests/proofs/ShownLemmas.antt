-- How the record of a report reads back in each form.
use Rattle.std.proofs.Common.{◌≡◌, ◌++◌, ℕ, List, [], ◌∷◌, map, Option, Some, sym, ap, subst, ◌∙◌, append-nil}
use Rattle.std.specs.Prelude.{IsUtf8}
use Rattle.std.specs.List.{AllByRecursion}
use Rattle.sf_base.specs.Data.{Datum}
use Rattle.sf_base.specs.declared.values.Kind.{Kind}
use Rattle.sf_forms.specs.declared.form.OutputForm.{OutputForm}
use Rattle.sf_forms.specs.declared.form.OutputForm.TheVariants.{Tsv, Json, Csv}
use Rattle.sf_forms.specs.Csv.{csv_rows}
use Rattle.sf_forms.specs.Forms.{given_row_text, record_text, row_text}
use Rattle.sf_forms.specs.JsonReading.{element_given, element_of, json_rows}
use Rattle.sf_forms.specs.ReadingBack.{CsvGivesTexts, CsvReadsBack, IsGivenValue, IsValue, JsonGivesValues, JsonIsUtf8, JsonReadsBack}
use Rattle.sf_forms.specs.ReadingBack.{RecordsAreGiven, RecordsAreRows, TsvGivesTexts, TsvReadsBack, table_fields, text_given}
use Rattle.sf_forms.specs.ReadingBack.{text_of_value}
use Rattle.sf_forms.specs.Tables.{table_of, tsv_rows}
use Rattle.sf_run.specs.Rows.{AreRowOf, given_to, kind_of}
use Rattle.sf_run.specs.Runs.{RunReport}

-- by what each slot was given
module _ (given : RecordsAreGiven) (n : ℕ) (r : RunReport) (are : AllByRecursion IsGivenValue (given_to n r.values)) where
  abbrev row : List (Option Datum)
  row = given_to n r.values

  one : (form : OutputForm) (text : List ℕ) → text ≡ record_text form n r → text ≡ given_row_text form row ++ []
  one form text is = is ∙ given form n r ∙ sym (append-nil (given_row_text form row))

  pub csv_given : CsvGivesTexts → (text : List ℕ) → text ≡ record_text Csv n r → csv_rows text ≡ Some (map text_given row ∷ [])
  csv_given law text is = ap csv_rows (one Csv text is) ∙ law (row ∷ []) (are, tt)

  pub json_given : JsonGivesValues → (text : List ℕ) → text ≡ record_text Json n r → json_rows text ≡ Some (map element_given row ∷ [])
  json_given law text is = ap json_rows (one Json text is) ∙ law (row ∷ []) (are, tt)

  pub table_given : TsvGivesTexts → (text : List ℕ) → text ≡ record_text Tsv n r → table_of text ≡ table_fields row ∷ []
  table_given law text is = ap table_of (one Tsv text is) ∙ law (row ∷ []) (are, tt)

-- by the row of their values
module _ (rows : RecordsAreRows) (n : ℕ) (r : RunReport) (row : List Datum) (is_row : AreRowOf n row r.values)
    (are : AllByRecursion IsValue row) where
  same : (form : OutputForm) (text : List ℕ) → text ≡ record_text form n r → text ≡ row_text form row ++ []
  same form text is = is ∙ rows form n row r is_row ∙ sym (append-nil (row_text form row))

  pub csv_row : CsvReadsBack → (text : List ℕ) → text ≡ record_text Csv n r → csv_rows text ≡ Some (map text_of_value row ∷ [])
  csv_row law text is = ap csv_rows (same Csv text is) ∙ law (row ∷ []) (are, tt)

  pub json_row : JsonReadsBack → (text : List ℕ) → text ≡ record_text Json n r → json_rows text ≡ Some (map element_of row ∷ [])
  json_row law text is = ap json_rows (same Json text is) ∙ law (row ∷ []) (are, tt)

  pub json_text : JsonIsUtf8 → (text : List ℕ) → text ≡ record_text Json n r → IsUtf8 text
  json_text law text is = subst IsUtf8 (sym (same Json text is)) (law (row ∷ []) (are, tt))

  pub table_row : TsvReadsBack → (kinds : List Kind) → map kind_of row ≡ kinds → (text : List ℕ) → text ≡ record_text Tsv n r
      → tsv_rows kinds text ≡ row ∷ []
  table_row law kinds typed text is = ap (tsv_rows kinds) (same Tsv text is) ∙ law kinds (row ∷ []) (are, tt) (typed, tt)
