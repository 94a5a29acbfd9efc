-- The text of a record in each form.
use Rattle.std.specs.Prelude.{ℕ, Bool, false, nat_eq, if◌then◌else◌, List, [], ◌∷◌, ◌++◌, length, map, Option}
use Rattle.std.specs.Option.{option_map_or}
use Rattle.std.specs.List.{join_with_byte, range_with_len}
use Rattle.std.specs.Fmt.{signed_decimal}
use Rattle.sf_base.specs.Data.{Datum, Number, Bytes, Real, datum_at}
use Rattle.sf_report.specs.Runs.{RunReport}
use Rattle.sf_forms.specs.declared.form.OutputForm.{OutputForm}
use Rattle.sf_forms.specs.declared.form.OutputForm.TheVariants.{Plain, Tsv, Json, Csv}
use Rattle.sf_forms.specs.Csv.{csv_text}
use Rattle.sf_forms.specs.JsonStrings.{json_string}
use Rattle.sf_forms.specs.Lines.{text_of}
pub use Rattle.sf_forms.specs.Missing.{missing_text}
use Rattle.sf_forms.specs.Reals.{real_text}
use Rattle.sf_forms.specs.Tables.{tsv_text}

-- ---- values

-- a field of a table: a number in decimal, a text, or a float
abbrev pub tsv_field : Datum → List ℕ
tsv_field (Number kind n) = signed_decimal n
tsv_field (Bytes bytes) = tsv_text bytes
tsv_field (Real r) = real_text Tsv r

-- a value of JSON (RFC 8259, 3): a number in decimal, a string, or a float, which is one of both
abbrev pub json_value : Datum → List ℕ
json_value (Number kind n) = signed_decimal n
json_value (Bytes bytes) = json_string bytes
json_value (Real r) = real_text Json r

-- a field of a row of CSV: a number in decimal, a text, or a float
abbrev pub csv_field : Datum → List ℕ
csv_field (Number kind n) = signed_decimal n
csv_field (Bytes bytes) = csv_text bytes
csv_field (Real r) = real_text Csv r

abbrev pub value_text : OutputForm → Datum → List ℕ
value_text Plain = text_of
value_text Tsv = tsv_field
value_text Json = json_value
value_text Csv = csv_field

-- the text of a value, or what stands for it where it is missing
abbrev pub given_text : OutputForm → Option Datum → List ℕ
given_text form given = option_map_or (value_text form) given (missing_text form)

-- ---- records

-- what stands between each two values, before them and after them
abbrev pub separator : OutputForm → ℕ
separator Plain = 32
separator Tsv = 9
separator Json = 44
separator Csv = 44

abbrev pub opening : OutputForm → List ℕ
opening Plain = []
opening Tsv = []
opening Json = 91 ∷ []
opening Csv = []

abbrev pub closing : OutputForm → List ℕ
closing Plain = 10 ∷ []
closing Tsv = 10 ∷ []
closing Json = 93 ∷ 10 ∷ []
closing Csv = 10 ∷ []

-- a record of one column that is empty
abbrev pub is_lone : List (List ℕ) → Bool
is_lone (column ∷ []) = nat_eq (length column) 0
is_lone columns = false

-- has quotes in CSV, so that it is no empty line
abbrev pub filler : OutputForm → List (List ℕ) → List ℕ
filler Csv values = if is_lone values then 34 ∷ 34 ∷ [] else []
filler form values = []

-- the record of these texts of values
abbrev pub framed : OutputForm → List (List ℕ) → List ℕ
framed form values = opening form ++ (join_with_byte (separator form) values ++ (filler form values ++ closing form))

-- the record of these values
abbrev pub row_text : OutputForm → List Datum → List ℕ
row_text form row = framed form (map (value_text form) row)

-- the record of these values, of which some may be missing
abbrev pub given_row_text : OutputForm → List (Option Datum) → List ℕ
given_row_text form row = framed form (map (given_text form) row)

-- the text of what a slot was given
abbrev pub slot_text : OutputForm → RunReport → ℕ → List ℕ
slot_text form report slot = given_text form (datum_at slot report.values)

-- the record of the slots 1 to n
abbrev pub record_text : OutputForm → ℕ → RunReport → List ℕ
record_text form n report = framed form (map (slot_text form report) (range_with_len 1 n))
