-- Records of columns read back, under names or none.
use Rattle.std.proofs.Common.{◌≡◌, ◌++◌, ℕ, ◌<◌, ◌^◌, Bool, true, false, List, [], ◌∷◌, map, Option, Some, None, refl, ap, ◌∙◌}
use Rattle.std.proofs.Common.{arith}
use Rattle.std.proofs.Math.Dec.{le→leb, lt→ltb}
use Rattle.std.specs.List.{AllByRecursion}
use Rattle.sf_base.specs.Bytes.{AreBytes}
use Rattle.sf_base.specs.Data.{Bytes, Datum}
use Rattle.sf_forms.specs.declared.form.OutputForm.{OutputForm}
use Rattle.sf_forms.specs.declared.form.OutputForm.TheVariants.{Plain, Tsv, Json, Csv}
use Rattle.sf_forms.specs.Csv.{csv_rows}
use Rattle.sf_forms.specs.Heads.{tag_of}
use Rattle.sf_forms.specs.ReadingBack.{AreGivenRows, CsvGivesTexts, IsGivenValue, JsonGivesValues, JsonObjectsGiveValues, TsvGivesTexts}
use Rattle.sf_forms.specs.ReadingBack.{TsvNamesReadBack, tagged_given, text_given}
use Rattle.sf_forms.proofs.Givens.{row_given}
use Rattle.sf_records.specs.ReadingBack.{ReadsAs, records_of}

-- ---- the line of names, as a record of texts

abbrev named : List (List ℕ) → List (Option Datum)
named names = map Some (map Bytes names)

are_texts : (names : List (List ℕ)) → AllByRecursion AreBytes names → AllByRecursion IsGivenValue (named names)
are_texts [] are = tt
are_texts (name ∷ names) are = (are.0, are_texts names are.1)

texts_are : (names : List (List ℕ)) → map text_given (named names) ≡ names
texts_are [] = refl
texts_are (name ∷ names) = ap (λ (ns : List (List ℕ)). name ∷ ns) (texts_are names)

-- ---- the laws together

-- how records of rows with missing values read back
pub record Laws : Type 0 where
  pub tables : TsvGivesTexts
  pub named : TsvNamesReadBack
  pub rows : CsvGivesTexts
  pub arrays : JsonGivesValues
  pub objects : JsonObjectsGiveValues

pub reads_as : Laws → (form : OutputForm) (names : Option (List (List ℕ))) (rows : List (List (Option Datum))) → AreGivenRows rows
    → ReadsAs form names rows (records_of form names rows)
reads_as laws Plain names rows are = tt
reads_as laws Tsv None rows are = laws.tables rows are
reads_as laws Tsv (Some names) rows are = λ bytes some.
    laws.named names (records_of Tsv (Some names) rows) bytes some
    ∙ ap (λ (fields : List (List (List ℕ))). names ∷ fields) (laws.tables rows are)
reads_as laws Csv None rows are = laws.rows rows are
reads_as laws Csv (Some names) rows are = λ bytes.
    ap (λ (line : List ℕ). csv_rows (line ++ records_of Csv (Some names) rows)) (row_given Csv (map Bytes names))
    ∙ laws.rows (named names ∷ rows) (are_texts names bytes, are)
    ∙ ap (λ (line : List (List ℕ)). Some (line ∷ map (map text_given) rows)) (texts_are names)
reads_as laws Json None rows are = laws.arrays rows are
reads_as laws Json (Some names) rows are = λ bytes lengths. laws.objects names rows bytes are lengths

-- ---- the number of a format

pub tagged_values : (b : Bool) (number : ℕ) (row : List (Option Datum)) → number < 2 ^ 64 → AllByRecursion IsGivenValue row
    → AllByRecursion IsGivenValue (tagged_given (tag_of b number) row)
tagged_values true number row few are = ((omega (arith, le→leb 0 number), omega (arith, few, lt→ltb number (2 ^ 64))), are)
tagged_values false number row few are = are
