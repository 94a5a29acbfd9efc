-- What a loop over records wrote reads back.
use Rattle.std.specs.Prelude.{◌≡◌, ◌++◌, ◌<◌, ℕ, false, List, [], ◌∷◌, length, map, drop, Option, Some, None}
use Rattle.std.specs.List.{AllByRecursion, flat_map}
use Rattle.sf_base.specs.Bytes.{AreBytes}
use Rattle.sf_base.specs.Data.{Datum}
use Rattle.sf_run.specs.Rows.{FillsSlots, given_to, kinds_of}
use Rattle.sf_format.specs.declared.directive.Directive.{Directive}
use Rattle.sf_format.specs.Proper.{IsAccepted, destinations_of, has_optional}
use Rattle.sf_run.specs.outcome.Ending.{Ending}
use Rattle.sf_run.specs.outcome.Status.TheVariants.{Done}
use Rattle.sf_run.specs.Limits.{RunWithin}
use Rattle.sf_run.specs.Runs.{RunReport}
use Rattle.sf_read.specs.source.Ahead.{Ahead}
use Rattle.sf_records.specs.declared.end.ToolEnd.{ToolEnd}
use Rattle.sf_forms.specs.declared.form.OutputForm.{OutputForm}
use Rattle.sf_forms.specs.declared.form.OutputForm.TheVariants.{Plain, Tsv, Json, Csv}
use Rattle.sf_forms.specs.Csv.{csv_rows}
use Rattle.sf_forms.specs.Forms.{given_row_text, given_text}
use Rattle.sf_forms.specs.Heads.{headed, names_line, names_over, tag_of}
use Rattle.sf_forms.specs.JsonReading.{element_given, json_objects, json_rows}
use Rattle.sf_forms.specs.ReadingBack.{table_fields, tagged_given, text_given, with_names}
pub use Rattle.sf_forms.specs.ReadingBack.{AreGivenRows, AreRows, HaveKinds, IsValue}
use Rattle.sf_forms.specs.Tables.{table_of, tsv_rows}
use Rattle.sf_forms.specs.makers.Forms.{Heading, bare, writing_under}
use Rattle.sf_records.specs.Forms.{row_text, writing}
use Rattle.sf_records.specs.Judging.{is_write}
use Rattle.sf_records.specs.Records.{Loops, ending_by, input_by}

-- ---- records of columns

-- the columns of a record: the number of the format that counted, where a first column has it, and what the slots were given
abbrev pub columns_of : Heading → ℕ → List (Option Datum) → List (Option Datum)
columns_of h number row = tagged_given (tag_of h.tagged number) row

-- the records of these columns under names, or none
abbrev pub records_of : OutputForm → Option (List (List ℕ)) → List (List (Option Datum)) → List ℕ
records_of form names rows = flat_map (λ row. headed names form (map (given_text form) row)) rows

-- The text of records of these columns reads back. A table and rows of CSV give the texts of the values, and an empty one
-- where a value is missing; with the line of names before them the first record is the names. JSON gives the values, and
-- null where one is missing: by arrays, or by objects with the names.
abbrev pub ReadsAs : OutputForm → Option (List (List ℕ)) → List (List (Option Datum)) → List ℕ → Type 0
ReadsAs Plain names rows text = Unit {0}
ReadsAs Tsv None rows text = table_of text ≡ map table_fields rows
ReadsAs Tsv (Some names) rows text = AllByRecursion AreBytes names → 0 < length names
    → table_of (names_line Tsv names ++ text) ≡ names ∷ map table_fields rows
ReadsAs Csv None rows text = csv_rows text ≡ Some (map (map text_given) rows)
ReadsAs Csv (Some names) rows text = AllByRecursion AreBytes names
    → csv_rows (names_line Csv names ++ text) ≡ Some (names ∷ map (map text_given) rows)
ReadsAs Json None rows text = json_rows text ≡ Some (map (map element_given) rows)
ReadsAs Json (Some names) rows text = AllByRecursion AreBytes names → AllByRecursion (λ row. length row ≡ length names) rows
    → json_objects text ≡ Some (map (λ row. with_names names (map element_given row)) rows)

-- ---- records of reports

-- each run is Done, and is that of what the ones before it left of the input x
abbrev pub AreDone : List Directive → ℕ → List ℕ → Ending → List RunReport → Type 0
AreDone ds m x ending [] = Unit {0}
AreDone ds m x ending (r ∷ rs) = RunWithin ds m x ending r × (r.status ≡ Done) × AreDone ds m (drop r.used x) ending rs

-- what the slots of the directives were given by each of the reports
abbrev pub rows_given : List Directive → List RunReport → List (List (Option Datum))
rows_given ds reports = map (λ r. given_to (length (destinations_of ds)) r.values) reports

-- No value is missing: the rows are those of values of the kinds of the directives. Their table gives these back, by the kinds.
pub record AreWhole (ds : List Directive) (rows : List (List (Option Datum))) : Type 0 where
  pub given : List (List Datum)
  pub are : rows ≡ map (map Some) given
  pub values : AreRows given
  pub kinds : HaveKinds (kinds_of ds) given
  pub texts : (form : OutputForm) → flat_map (given_row_text form) rows ≡ flat_map (row_text form) given
  pub table : tsv_rows (kinds_of ds) (flat_map (row_text Tsv) given) ≡ given

-- The text is that of full records under the heading, as many as the answer has, and of a part of one more, where the sink
-- failed within it. The full records are those of what the input's runs gave to the slots, and they read back as that.
pub record ReadsAsRows (h : Heading) (ds : List Directive) (m : ℕ) (x : List ℕ) (ending : Ending) (text : List ℕ)
    (answer : ToolEnd) : Type 0 where
  pub reports : List RunReport
  pub done : AreDone ds m x ending reports
  pub fills : AllByRecursion (λ r. FillsSlots ds r.values) reports
  pub rows : List (List (Option Datum))
  pub are : rows ≡ rows_given ds reports
  pub count : length rows ≡ answer.records
  pub lengths : AllByRecursion (λ row. length row ≡ length (destinations_of ds)) rows
  pub values : AreGivenRows rows
  pub columns : List (List (Option Datum))
  pub columns_are : columns ≡ map (columns_of h 1) rows
  pub part : List ℕ
  pub text_is : text ≡ records_of h.form (names_over h) columns ++ part
  pub whole : is_write answer.fault ≡ false → part ≡ []
  pub reads : ReadsAs h.form (names_over h) columns (records_of h.form (names_over h) columns)
  pub typed : has_optional ds ≡ false → AreWhole ds rows

-- so does what a loop wrote by an accepted format under this heading, of the records of an input of bytes
abbrev pub RecordsReadBack : {S : Type 0} → (S → Option (List ℕ)) → Type 0
RecordsReadBack {S} to_come =
    (h : Heading) (ds : List Directive) → IsAccepted ds → (m : ℕ) (t : List ℕ) → AreBytes t
    → (now : Ahead S) (failures failures' : ℕ) (before after : Option (List ℕ)) (answer : ToolEnd)
    (loop : Loops (writing_under h 1 ds) to_come ds m t now failures failures' before after answer)
    → ReadsAsRows h ds m (input_by loop.failed loop.consumed t) (ending_by loop.failed) loop.written answer

-- and in this form without a heading
abbrev pub WrittenReadsBack : {S : Type 0} → (S → Option (List ℕ)) → Type 0
WrittenReadsBack {S} to_come =
    (form : OutputForm) (ds : List Directive) → IsAccepted ds → (m : ℕ) (t : List ℕ) → AreBytes t
    → (now : Ahead S) (failures failures' : ℕ) (before after : Option (List ℕ)) (answer : ToolEnd)
    (loop : Loops (writing form ds) to_come ds m t now failures failures' before after answer)
    → ReadsAsRows (bare form) ds m (input_by loop.failed loop.consumed t) (ending_by loop.failed) loop.written answer
