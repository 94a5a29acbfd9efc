-- Fields of tables, and what a table's text reads as.
use Rattle.std.specs.Prelude.{ℕ, Bool, true, false, nat_eq, if◌then◌else◌, List, [], ◌∷◌, map, to_bits}
use Rattle.std.specs.List.{flat_map}
use Rattle.std.specs.Float.Ieee.{Format, binary32, binary64}
use Rattle.std.specs.Float.Parse.{parse_float}
use Rattle.std.specs.Option.{option_map_or}
use Rattle.std.specs.Str.Parse.{signed_digits_value}
use Rattle.sf_base.specs.declared.values.Kind.{Kind}
use Rattle.sf_base.specs.declared.values.Kind.TheVariants.{Text, F32, F64}
use Rattle.sf_base.specs.declared.real.Real.TheVariants as reals
use Rattle.sf_base.specs.Data.{Datum, Number, Bytes, Real}

-- ---- what is written

-- a tab, a line end, a carriage return and a backslash by two bytes each, any other byte as it is
abbrev pub tsv_escaped : ℕ → List ℕ
tsv_escaped b =
    if nat_eq b 92 then 92 ∷ 92 ∷ []
    else if nat_eq b 9 then 92 ∷ 116 ∷ []
    else if nat_eq b 10 then 92 ∷ 110 ∷ []
    else if nat_eq b 13 then 92 ∷ 114 ∷ []
    else b ∷ []

abbrev pub tsv_text : List ℕ → List ℕ
tsv_text bytes = flat_map tsv_escaped bytes

-- ---- what it reads as

-- a table: its records, each with its fields
abbrev pub Table : Type 0
Table = List (List (List ℕ))

-- a byte in front of the first field
abbrev pub with_byte : ℕ → Table → Table
with_byte b ((field ∷ fields) ∷ records) = ((b ∷ field) ∷ fields) ∷ records
with_byte b ([] ∷ records) = ((b ∷ []) ∷ []) ∷ records
with_byte b [] = ((b ∷ []) ∷ []) ∷ []

-- an empty field in front of the first record
abbrev pub with_field : Table → Table
with_field (fields ∷ records) = ([] ∷ fields) ∷ records
with_field [] = ([] ∷ []) ∷ []

-- a record of an empty field in front
abbrev pub with_record : Table → Table
with_record records = ([] ∷ []) ∷ records

-- the byte that stands after a backslash for another, or for itself
abbrev pub unescaped : ℕ → ℕ
unescaped b =
    if nat_eq b 116 then 9
    else if nat_eq b 110 then 10
    else if nat_eq b 114 then 13
    else b

-- the table of a text: a tab ends a field, a line end ends a record, and a backslash makes a pair with the byte after
-- it (true: a backslash stands before the text)
abbrev pub table_from : Bool → List ℕ → Table
table_from escaped [] = []
table_from true (b ∷ text) = with_byte (unescaped b) (table_from false text)
table_from false (b ∷ text) =
    if nat_eq b 92 then table_from true text
    else if nat_eq b 9 then with_field (table_from false text)
    else if nat_eq b 10 then with_record (table_from false text)
    else with_byte b (table_from false text)

abbrev pub table_of : List ℕ → Table
table_of text = table_from false text

-- the pattern of the float that a text writes, or of 0 where it writes none (C11 F.2)
abbrev pub pattern_in : Format → List ℕ → ℕ
pattern_in f field = option_map_or (to_bits f) (parse_float f field) 0

-- what a field of a column of this kind stands for: the bytes of a text, the float that it writes, or the number of its sign and digits
abbrev pub datum_of_field : Kind → List ℕ → Datum
datum_of_field Text field = Bytes field
datum_of_field F32 field = Real (reals.F32 (pattern_in binary32 field))
datum_of_field F64 field = Real (reals.F64 (pattern_in binary64 field))
datum_of_field kind field = Number kind (signed_digits_value 10 field)

-- the values of a record that has columns of these kinds
abbrev pub values_of : List Kind → List (List ℕ) → List Datum
values_of [] fields = []
values_of (kind ∷ kinds) [] = []
values_of (kind ∷ kinds) (field ∷ fields) = datum_of_field kind field ∷ values_of kinds fields

-- the values of the records of a text
abbrev pub tsv_rows : List Kind → List ℕ → List (List Datum)
tsv_rows kinds text = map (values_of kinds) (table_of text)
