-- Records under heads: the names of their columns, and a first column that has the number of the format that counted.
use Rattle.std.specs.Prelude.{ℕ, zero, suc, Bool, true, false, List, [], ◌∷◌, ◌++◌, map, codes, Option, Some, None}
use Rattle.std.specs.Option.{option_map}
use Rattle.std.specs.List.{join_with_byte, range_with_len}
use Rattle.std.specs.Fmt.{decimal}
use Rattle.sf_base.specs.Data.{Bytes, Datum}
use Rattle.sf_report.specs.Runs.{RunReport}
use Rattle.sf_forms.specs.declared.form.OutputForm.{OutputForm}
use Rattle.sf_forms.specs.declared.form.OutputForm.TheVariants.{Tsv, Json, Csv}
use Rattle.sf_forms.specs.Forms.{framed, given_text, json_value, row_text, slot_text}
use Rattle.sf_forms.specs.JsonStrings.{json_string}

-- ---- columns

-- the number of the format that counted, if it is given, before the texts of values
abbrev pub tagged : Option ℕ → List (List ℕ) → List (List ℕ)
tagged None values = values
tagged (Some number) values = decimal number ∷ values

-- the texts of a record's columns: that number, and what the slots 1 to n were given
abbrev pub columns : OutputForm → Option ℕ → ℕ → RunReport → List (List ℕ)
columns form tag n report = tagged tag (map (slot_text form report) (range_with_len 1 n))

-- the number, if it is given, as it stands before n values: where there are any, a separator stands between
abbrev pub tag_text : ℕ → Option ℕ → ℕ → List ℕ
tag_text sep None n = []
tag_text sep (Some number) zero = decimal number
tag_text sep (Some number) (suc n) = decimal number ++ sep ∷ []

-- the names of the columns; where there is a column for the format's number, its name comes first
abbrev pub column_names : Bool → List (List ℕ) → List (List ℕ)
column_names true names = codes "format" ∷ names
column_names false names = names

-- ---- objects of JSON (RFC 8259, 4)

-- what stands before a value: its name and a colon
abbrev pub head : List ℕ → List ℕ
head name = json_string name ++ 58 ∷ []

-- a name, a colon and the text of a value
abbrev pub member : List ℕ → List ℕ → List ℕ
member name value = json_string name ++ 58 ∷ value

-- each text of a value by its name; one that has none stands by an empty name
abbrev pub members : List (List ℕ) → List (List ℕ) → List (List ℕ)
members names [] = []
members [] (value ∷ values) = member [] value ∷ members [] values
members (name ∷ names) (value ∷ values) = member name value ∷ members names values

abbrev pub object_text : List (List ℕ) → List (List ℕ) → List ℕ
object_text names values = 123 ∷ (join_with_byte 44 (members names values) ++ 125 ∷ 10 ∷ [])

-- what stands before the first of n names of an object's values: a brace, and the number of the format, if it is given
abbrev pub object_front : Option ℕ → ℕ → List ℕ
object_front None n = 123 ∷ []
object_front (Some number) n = 123 ∷ (head (codes "format") ++ tag_text 44 (Some number) n)

-- the object of these values
abbrev pub object_row : List (List ℕ) → List Datum → List ℕ
object_row names row = object_text names (map json_value row)

-- the object of these, of which some may be missing
abbrev pub given_object : List (List ℕ) → List (Option Datum) → List ℕ
given_object names row = object_text names (map (given_text Json) row)

-- ---- records and the line over them

-- the record of these columns: in JSON an object where they have names; else as without names
abbrev pub headed : Option (List (List ℕ)) → OutputForm → List (List ℕ) → List ℕ
headed None form values = framed form values
headed (Some names) Json values = object_text names values
headed (Some names) form values = framed form values

-- The form of records, the names of their values, if they have names, and whether a first column has the number of the
-- format that counted.
pub record Heading : Type 0 where
  pub form : OutputForm
  pub names : Option (List (List ℕ))
  pub tagged : Bool

-- a form without names and numbers of formats
abbrev pub bare : OutputForm → Heading
bare form = record { form = form; names = None; tagged = false }

-- the names of all columns
abbrev pub names_over : Heading → Option (List (List ℕ))
names_over h = option_map (column_names h.tagged) h.names

abbrev pub tag_of : Bool → ℕ → Option ℕ
tag_of true number = Some number
tag_of false number = None

-- the record of the slots 1 to n, by the report of a run of the format with this number
abbrev pub headed_text : Heading → ℕ → ℕ → RunReport → List ℕ
headed_text h number n report = headed (names_over h) h.form (columns h.form (tag_of h.tagged number) n report)

-- the line of these names, in the forms that have one: the record of the names
abbrev pub names_line : OutputForm → List (List ℕ) → List ℕ
names_line Tsv names = row_text Tsv (map Bytes names)
names_line Csv names = row_text Csv (map Bytes names)
names_line form names = []

abbrev pub line_over : OutputForm → Option (List (List ℕ)) → List ℕ
line_over form None = []
line_over form (Some names) = names_line form names

-- the line over records: that of the names, where there are any
abbrev pub header_text : Heading → List ℕ
header_text h = line_over h.form (names_over h)
