-- What was written reads back.
use Rattle.std.specs.Prelude.{◌≡◌, ◌<◌, ℕ, List, [], ◌∷◌, ◌++◌, length, map, Some, None, Option, IfSome, IsUtf8, pos}
use Rattle.std.specs.Fmt.{signed_decimal}
use Rattle.std.specs.List.{AllByRecursion, flat_map}
use Rattle.sf_base.specs.Bytes.{AreBytes}
use Rattle.sf_base.specs.Data.{Datum, Number, Bytes, Real, kind_of}
use Rattle.sf_base.specs.declared.values.Kind.{Kind}
use Rattle.sf_report.specs.Rows.{AreRowOf, given_to}
pub use Rattle.sf_report.specs.Rows.{IsValue}
use Rattle.sf_report.specs.Runs.{RunReport}
use Rattle.sf_float.specs.fewest.Laid.{shortest_text}
use Rattle.sf_forms.specs.declared.form.OutputForm.{OutputForm}
use Rattle.sf_forms.specs.declared.form.OutputForm.TheVariants.{Tsv, Json, Csv}
use Rattle.sf_forms.specs.Csv.{csv_rows}
use Rattle.sf_forms.specs.Forms.{given_row_text, given_text, record_text, row_text, value_text}
use Rattle.sf_forms.specs.Heads.{Heading, headed, headed_text, given_object, names_line, names_over, object_row, tag_of}
use Rattle.sf_forms.specs.JsonReading.{Element, element_given, element_of, json_objects, json_rows}
use Rattle.sf_forms.specs.Tables.{table_of, tsv_rows}
use Rattle.sf_base.specs.declared.values.Kind.TheVariants.{U64}

-- each row has such values
abbrev pub AreRows : List (List Datum) → Type 0
AreRows rows = AllByRecursion (λ row. AllByRecursion IsValue row) rows

-- each row has values of these kinds
abbrev pub HaveKinds : List Kind → List (List Datum) → Type 0
HaveKinds kinds rows = AllByRecursion (λ row. map kind_of row ≡ kinds) rows

-- the record of a report is that of its row
abbrev pub RecordsAreRows : Type 0
RecordsAreRows = (form : OutputForm) (n : ℕ) (row : List Datum) (r : RunReport) → AreRowOf n row r.values
    → record_text form n r ≡ row_text form row

-- a table of rows of the same kinds gives them back
abbrev pub TsvReadsBack : Type 0
TsvReadsBack = (kinds : List Kind) (rows : List (List Datum)) → AreRows rows → HaveKinds kinds rows
    → tsv_rows kinds (flat_map (row_text Tsv) rows) ≡ rows

-- arrays give their values back, without the kinds
abbrev pub JsonReadsBack : Type 0
JsonReadsBack = (rows : List (List Datum)) → AreRows rows → json_rows (flat_map (row_text Json) rows) ≡ Some (map (map element_of) rows)

-- and are UTF-8 (RFC 8259, 8.1)
abbrev pub JsonIsUtf8 : Type 0
JsonIsUtf8 = (rows : List (List Datum)) → AreRows rows → IsUtf8 (flat_map (row_text Json) rows)

-- the text of a value: its digits, its bytes, or the shortest text that reads as the float
abbrev pub text_of_value : Datum → List ℕ
text_of_value (Number kind n) = signed_decimal n
text_of_value (Bytes bytes) = bytes
text_of_value (Real r) = shortest_text r

-- rows of CSV give the texts of their values back
abbrev pub CsvReadsBack : Type 0
CsvReadsBack = (rows : List (List Datum)) → AreRows rows → csv_rows (flat_map (row_text Csv) rows) ≡ Some (map (map text_of_value) rows)

-- ---- records of which some values may be missing

-- a value, or nothing
abbrev pub IsGivenValue : Option Datum → Type 0
IsGivenValue given = IfSome given IsValue

abbrev pub AreGivenRows : List (List (Option Datum)) → Type 0
AreGivenRows rows = AllByRecursion (λ row. AllByRecursion IsGivenValue row) rows

-- the record of a report is that of what its slots were given
abbrev pub RecordsAreGiven : Type 0
RecordsAreGiven = (form : OutputForm) (n : ℕ) (r : RunReport) → record_text form n r ≡ given_row_text form (given_to n r.values)

-- the text of what a slot was given: a value that is missing has an empty one, as an empty text has
abbrev pub text_given : Option Datum → List ℕ
text_given None = []
text_given (Some d) = text_of_value d

-- the fields of a record of a table; one without columns is an empty line, as one of an empty column is
abbrev pub table_fields : List (Option Datum) → List (List ℕ)
table_fields [] = [] ∷ []
table_fields (given ∷ row) = map text_given (given ∷ row)

-- a table gives the texts of its values back
abbrev pub TsvGivesTexts : Type 0
TsvGivesTexts = (rows : List (List (Option Datum))) → AreGivenRows rows
    → table_of (flat_map (given_row_text Tsv) rows) ≡ map table_fields rows

-- so do rows of CSV
abbrev pub CsvGivesTexts : Type 0
CsvGivesTexts = (rows : List (List (Option Datum))) → AreGivenRows rows
    → csv_rows (flat_map (given_row_text Csv) rows) ≡ Some (map (map text_given) rows)

-- arrays give the values back, and null where one is missing
abbrev pub JsonGivesValues : Type 0
JsonGivesValues = (rows : List (List (Option Datum))) → AreGivenRows rows
    → json_rows (flat_map (given_row_text Json) rows) ≡ Some (map (map element_given) rows)

-- and are UTF-8 (RFC 8259, 8.1)
abbrev pub GivenJsonIsUtf8 : Type 0
GivenJsonIsUtf8 = (rows : List (List (Option Datum))) → AreGivenRows rows → IsUtf8 (flat_map (given_row_text Json) rows)

-- ---- under heads

-- the row with the number of the format as its first value, if that is given
abbrev pub tagged_row : Option ℕ → List Datum → List Datum
tagged_row None row = row
tagged_row (Some number) row = Number U64 (pos number) ∷ row

abbrev pub tagged_given : Option ℕ → List (Option Datum) → List (Option Datum)
tagged_given None row = row
tagged_given (Some number) row = Some (Number U64 (pos number)) ∷ row

-- the record of a report under a heading is that of its row
abbrev pub HeadedRecordsAreRows : Type 0
HeadedRecordsAreRows = (h : Heading) (number n : ℕ) (row : List Datum) (r : RunReport) → AreRowOf n row r.values
    → headed_text h number n r ≡ headed (names_over h) h.form (map (value_text h.form) (tagged_row (tag_of h.tagged number) row))

-- also where values are missing
abbrev pub HeadedRecordsAreGiven : Type 0
HeadedRecordsAreGiven = (h : Heading) (number n : ℕ) (r : RunReport)
    → headed_text h number n r ≡ headed (names_over h) h.form
    (map (given_text h.form) (tagged_given (tag_of h.tagged number) (given_to n r.values)))

-- each element by its name
abbrev pub with_names : List (List ℕ) → List Element → List (List ℕ × Element)
with_names (name ∷ names) (element ∷ elements) = (name, element) ∷ with_names names elements
with_names names elements = []

-- objects give the names and their values back
abbrev pub JsonObjectsReadBack : Type 0
JsonObjectsReadBack = (names : List (List ℕ)) (rows : List (List Datum)) → AllByRecursion AreBytes names → AreRows rows
    → AllByRecursion (λ row. length row ≡ length names) rows
    → json_objects (flat_map (object_row names) rows) ≡ Some (map (λ row. with_names names (map element_of row)) rows)

-- also where values are missing
abbrev pub JsonObjectsGiveValues : Type 0
JsonObjectsGiveValues = (names : List (List ℕ)) (rows : List (List (Option Datum))) → AllByRecursion AreBytes names → AreGivenRows rows
    → AllByRecursion (λ row. length row ≡ length names) rows
    → json_objects (flat_map (given_object names) rows) ≡ Some (map (λ row. with_names names (map element_given row)) rows)

-- in a table with a line of names that line is the names, and the others are as without it
abbrev pub TsvNamesReadBack : Type 0
TsvNamesReadBack = (names : List (List ℕ)) (text : List ℕ) → AllByRecursion AreBytes names → 0 < length names
    → table_of (names_line Tsv names ++ text) ≡ names ∷ table_of text

-- so do rows of CSV
abbrev pub CsvNamesReadBack : Type 0
CsvNamesReadBack = (names : List (List ℕ)) (rows : List (List Datum)) → AllByRecursion AreBytes names → AreRows rows
    → csv_rows (names_line Csv names ++ flat_map (row_text Csv) rows) ≡ Some (names ∷ map (map text_of_value) rows)
