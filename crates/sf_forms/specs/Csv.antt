-- Fields of rows of comma-separated values (RFC 4180, 2), and what a text of such rows reads as. Lines end with a line end alone.
use Rattle.std.specs.Prelude.{ℕ, Bool, ◌&&◌, ◌||◌, not, nat_eq, if◌then◌else◌, List, [], ◌∷◌, ◌++◌, Option, Some, None}
use Rattle.std.specs.List.{flat_map, list_all}

-- ---- what is written

-- a byte that a field without quotes may have: no comma, no quote, no end of a line
abbrev pub is_bare : ℕ → Bool
is_bare b = not (nat_eq b 44) && (not (nat_eq b 34) && (not (nat_eq b 10) && not (nat_eq b 13)))

-- a byte between quotes: a quote twice
abbrev pub csv_escaped : ℕ → List ℕ
csv_escaped b = if nat_eq b 34 then 34 ∷ 34 ∷ [] else b ∷ []

abbrev pub csv_text : List ℕ → List ℕ
csv_text bytes = if list_all is_bare bytes then bytes else 34 ∷ (flat_map csv_escaped bytes ++ 34 ∷ [])

-- ---- what it reads as

-- where a reader stands in a text
pub data Place : Type 0 where
  -- before a record, after a comma, within a field without quotes, within one with quotes, after a quote in it
  Outside : Place
  Opened : Place
  InBare : Place
  InQuotes : Place
  Behind : Place
  -- the text is none that is read
  Wrong : Place

-- the records that it has read, the fields of the one under way, the bytes of the field under way, and where it stands
pub record Reader : Type 0 where
  pub rows : List (List (List ℕ))
  pub row : List (List ℕ)
  pub field : List ℕ
  pub place : Place

abbrev pub wrong : Reader → Reader
wrong s = record { rows = s.rows; row = s.row; field = s.field; place = Wrong }

abbrev pub with_byte : Place → ℕ → Reader → Reader
with_byte place b s = record { rows = s.rows; row = s.row; field = s.field ++ b ∷ []; place = place }

abbrev pub in_quotes : Reader → Reader
in_quotes s = record { rows = s.rows; row = s.row; field = s.field; place = InQuotes }

abbrev pub behind : Reader → Reader
behind s = record { rows = s.rows; row = s.row; field = s.field; place = Behind }

-- a comma ends a field, a line end the record as well
abbrev pub field_ends : Reader → Reader
field_ends s = record { rows = s.rows; row = s.row ++ s.field ∷ []; field = []; place = Opened }

abbrev pub record_ends : Reader → Reader
record_ends s = record { rows = s.rows ++ (s.row ++ s.field ∷ []) ∷ []; row = []; field = []; place = Outside }

-- an empty line is a record of no field: a record of one field that is empty has quotes
abbrev pub no_field : Reader → Reader
no_field s = record { rows = s.rows ++ [] ∷ []; row = []; field = []; place = Outside }

abbrev pub in_bare : Reader → ℕ → Reader
in_bare s b =
    if nat_eq b 44 then field_ends s
    else if nat_eq b 10 then record_ends s
    else if nat_eq b 34 || nat_eq b 13 then wrong s
    else with_byte InBare b s

abbrev pub opened : Reader → ℕ → Reader
opened s b = if nat_eq b 34 then in_quotes s else in_bare s b

-- the reader after one more byte
abbrev pub step_at : Place → Reader → ℕ → Reader
step_at Outside s b = if nat_eq b 10 then no_field s else opened s b
step_at Opened s b = opened s b
step_at InBare s b = in_bare s b
step_at InQuotes s b = if nat_eq b 34 then behind s else with_byte InQuotes b s
step_at Behind s b =
    if nat_eq b 34 then with_byte InQuotes 34 s
    else if nat_eq b 44 then field_ends s
    else if nat_eq b 10 then record_ends s
    else wrong s
step_at Wrong s b = s

-- the reader after these bytes
abbrev pub after : Reader → List ℕ → Reader
after s [] = s
after s (b ∷ text) = after (step_at s.place s b) text

abbrev pub fresh : Reader
fresh = record { rows = []; row = []; field = []; place = Outside }

abbrev pub rows_in : Place → Reader → Option (List (List (List ℕ)))
rows_in Outside s = Some s.rows
rows_in _ s = None

-- the records of a text of whole lines, each with its fields
abbrev pub csv_rows : List ℕ → Option (List (List (List ℕ)))
csv_rows text = rows_in (after fresh text).place (after fresh text)
