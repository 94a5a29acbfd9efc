-- What a text of arrays or objects of JSON (RFC 8259), one a line, reads as: integers as numbers, other numbers by their texts,
-- strings as the bytes that they stand for, and null.
use Rattle.std.specs.Prelude.{ℕ, ◌+◌, ◌-◌, ◌*◌, Bool, ◌&&◌, ◌||◌, nat_eq, nat_lt, nat_le, if◌then◌else◌, List, [], ◌∷◌, ◌++◌, ℤ, Option}
use Rattle.std.specs.Prelude.{Some, None, true, false, map}
use Rattle.std.specs.Option.{option_map}
use Rattle.std.specs.Char.{digit_value}
use Rattle.std.specs.Str.Parse.{signed_digits_value}
use Rattle.sf_base.specs.Data.{Datum, Number, Bytes, Real}
use Rattle.sf_float.specs.fewest.Laid.{shortest_text}
use Rattle.sf_forms.specs.Reals.{is_finite}

-- an element of an array
pub data Element : Type 0 where
  Integer : ℤ → Element
  -- a number with a fraction or an exponent, by its text
  Decimal : List ℕ → Element
  String : List ℕ → Element
  Null : Element

-- A value without its kind. A float is the number that its shortest text writes; one that isn't finite is the string of that text.
abbrev pub element_of : Datum → Element
element_of (Number kind n) = Integer n
element_of (Bytes bytes) = String bytes
element_of (Real r) = if is_finite r then Decimal (shortest_text r) else String (shortest_text r)

-- of what a slot was given; a value that is missing is null
abbrev pub element_given : Option Datum → Element
element_given None = Null
element_given (Some d) = element_of d

-- where a reader stands in a number with a fraction or an exponent: after the point, in the digits after it, after the letter of the
-- exponent, after its sign, in its digits
pub data Part : Type 0 where
  Point : Part
  Fraction : Part
  Letter : Part
  Sign : Part
  Exponent : Part

-- what stands on a line
pub data Shape : Type 0 where
  Arrays : Shape
  Objects : Shape

-- where a reader stands in a text
pub data Place : Type 0 where
  -- before an array or object, after its bracket, after a comma (in objects, a colon too), after an element, after all
  Outside : Place
  Opened : Place
  Awaiting : Place
  Behind : Place
  Closed : Place
  -- within a number, of which it has read these bytes: a minus or none, and digits
  InNumber : List ℕ → Place
  -- within a number that is no integer, of which it has read these bytes
  InDecimal : Part → List ℕ → Place
  -- within `null`, of which this byte is to come, and then these
  InNull : ℕ → List ℕ → Place
  -- within a string, of which it has read characters for these bytes; then after its backslash; then within a code, of
  -- whose four digits so many more than one are to come, and the others have this value
  InString : List ℕ → Place
  InEscape : List ℕ → Place
  InCode : List ℕ → ℕ → ℕ → Place
  -- the text is none that is read
  Wrong : Place

-- The arrays that it has read, the elements of the one under way, and where it stands. The elements of an object are a name, its
-- value, the next name, and so on.
pub record Reader : Type 0 where
  pub rows : List (List Element)
  pub row : List Element
  pub place : Place

abbrev pub at : Place → Reader → Reader
at place s = record { rows = s.rows; row = s.row; place = place }

abbrev pub with_element : Element → Reader → Reader
with_element element s = record { rows = s.rows; row = s.row ++ element ∷ []; place = Behind }

-- white space within a line (RFC 8259, 2)
abbrev pub is_blank : ℕ → Bool
is_blank b = nat_eq b 32 || (nat_eq b 9 || nat_eq b 13)

abbrev pub is_digit : ℕ → Bool
is_digit b = nat_le 48 b && nat_le b 57

-- an element begins: with a digit, a minus, a quote or the n of null
abbrev pub begins : Reader → ℕ → Reader
begins s b =
    if is_digit b then at (InNumber (b ∷ [])) s
    else if nat_eq b 45 then at (InNumber (b ∷ [])) s
    else if nat_eq b 34 then at (InString []) s
    else if nat_eq b 110 then at (InNull 117 (108 ∷ 108 ∷ [])) s
    else if is_blank b then s
    else at Wrong s

-- each name so far has its value
abbrev pub are_paired : List Element → Bool
are_paired [] = true
are_paired (name ∷ []) = false
are_paired (name ∷ value ∷ more) = are_paired more

-- a name is due, or the end of the object
abbrev pub is_name_due : Shape → Reader → Bool
is_name_due Arrays s = false
is_name_due Objects s = are_paired s.row

-- a name begins, with a quote
abbrev pub name_begins : Reader → ℕ → Reader
name_begins s b = if nat_eq b 34 then at (InString []) s else if is_blank b then s else at Wrong s

-- where an element is due
abbrev pub awaits : Shape → Reader → ℕ → Reader
awaits shape s b = if is_name_due shape s then name_begins s b else begins s b

-- the brackets
abbrev pub opens : Shape → ℕ
opens Arrays = 91
opens Objects = 123

abbrev pub closes : Shape → ℕ
closes Arrays = 93
closes Objects = 125

-- after an element: a comma, or the closing bracket
abbrev pub ends : Shape → Reader → ℕ → Reader
ends shape s b =
    if nat_eq b 44 then at Awaiting s
    else if nat_eq b (closes shape) then at Closed s
    else if is_blank b then s
    else at Wrong s

-- after a name: a colon
abbrev pub named : Reader → ℕ → Reader
named s b = if nat_eq b 58 then at Awaiting s else if is_blank b then s else at Wrong s

abbrev pub goes_on : Shape → Reader → ℕ → Reader
goes_on Arrays s b = ends Arrays s b
goes_on Objects s b = if are_paired s.row then ends Objects s b else named s b

-- after a backslash in a string that stands for these bytes so far (RFC 8259, 7)
abbrev pub escapes : List ℕ → Reader → ℕ → Reader
escapes bytes s b =
    if nat_eq b 34 || (nat_eq b 92 || nat_eq b 47) then at (InString (bytes ++ b ∷ [])) s
    else if nat_eq b 98 then at (InString (bytes ++ 8 ∷ [])) s
    else if nat_eq b 102 then at (InString (bytes ++ 12 ∷ [])) s
    else if nat_eq b 110 then at (InString (bytes ++ 10 ∷ [])) s
    else if nat_eq b 114 then at (InString (bytes ++ 13 ∷ [])) s
    else if nat_eq b 116 then at (InString (bytes ++ 9 ∷ [])) s
    else if nat_eq b 117 then at (InCode bytes 3 0) s
    else at Wrong s

-- the character of a code: of an ASCII character its byte, and of a lone surrogate from 0xdc80 to 0xdcff the byte after
-- 0xdc00; no other is read
abbrev pub with_code : List ℕ → Reader → ℕ → Reader
with_code bytes s code =
    if nat_lt code 128 then at (InString (bytes ++ code ∷ [])) s
    else if nat_le 56448 code && nat_le code 56575 then at (InString (bytes ++ (code - 56320) ∷ [])) s
    else at Wrong s

-- the letter and the sign of an exponent
abbrev pub is_letter : ℕ → Bool
is_letter b = nat_eq b 101 || nat_eq b 69

abbrev pub is_sign : ℕ → Bool
is_sign b = nat_eq b 43 || nat_eq b 45

-- within the digits of a number, of which it has read these bytes
abbrev pub number_step : Shape → List ℕ → Reader → ℕ → Reader
number_step shape text s b =
    if is_digit b then at (InNumber (text ++ b ∷ [])) s
    else if nat_eq b 46 then at (InDecimal Point (text ++ b ∷ [])) s
    else if is_letter b then at (InDecimal Letter (text ++ b ∷ [])) s
    else goes_on shape (with_element (Integer (signed_digits_value 10 text)) s) b

-- after its point (RFC 8259, 6): a digit stands after a point and in an exponent
abbrev pub decimal_step : Shape → Part → List ℕ → Reader → ℕ → Reader
decimal_step shape Point text s b = if is_digit b then at (InDecimal Fraction (text ++ b ∷ [])) s else at Wrong s
decimal_step shape Fraction text s b =
    if is_digit b then at (InDecimal Fraction (text ++ b ∷ [])) s
    else if is_letter b then at (InDecimal Letter (text ++ b ∷ [])) s
    else goes_on shape (with_element (Decimal text) s) b
decimal_step shape Letter text s b =
    if is_digit b then at (InDecimal Exponent (text ++ b ∷ [])) s
    else if is_sign b then at (InDecimal Sign (text ++ b ∷ [])) s
    else at Wrong s
decimal_step shape Sign text s b = if is_digit b then at (InDecimal Exponent (text ++ b ∷ [])) s else at Wrong s
decimal_step shape Exponent text s b =
    if is_digit b then at (InDecimal Exponent (text ++ b ∷ [])) s else goes_on shape (with_element (Decimal text) s) b

-- the next byte of null
abbrev pub null_step : List ℕ → Reader → Reader
null_step [] s = with_element Null s
null_step (next ∷ rest) s = at (InNull next rest) s

-- the reader after one more byte
abbrev pub step_at : Shape → Place → Reader → ℕ → Reader
step_at shape Outside s b = if nat_eq b (opens shape) then at Opened s else if is_blank b then s else at Wrong s
step_at shape Opened s b = if nat_eq b (closes shape) then at Closed s else awaits shape s b
step_at shape Awaiting s b = awaits shape s b
step_at shape (InNumber text) s b = number_step shape text s b
step_at shape (InDecimal part text) s b = decimal_step shape part text s b
step_at shape (InNull next rest) s b = if nat_eq b next then null_step rest s else at Wrong s
step_at shape (InString bytes) s b =
    if nat_eq b 34 then with_element (String bytes) s
    else if nat_eq b 92 then at (InEscape bytes) s
    else if nat_lt b 32 then at Wrong s
    else at (InString (bytes ++ b ∷ [])) s
step_at shape (InEscape bytes) s b = escapes bytes s b
step_at shape (InCode bytes more code) s b =
    if nat_lt (digit_value b) 16
    then (if nat_eq more 0 then with_code bytes s (code * 16 + digit_value b) else at
    (InCode bytes (more - 1) (code * 16 + digit_value b)) s)
    else at Wrong s
step_at shape Behind s b = goes_on shape s b
step_at shape Closed s b =
    if nat_eq b 10 then record { rows = s.rows ++ s.row ∷ []; row = []; place = Outside }
    else if is_blank b then s
    else at Wrong s
step_at shape Wrong s b = s

-- the reader after these bytes
abbrev pub after : Shape → Reader → List ℕ → Reader
after shape s [] = s
after shape s (b ∷ text) = after shape (step_at shape s.place s b) text

abbrev pub fresh : Reader
fresh = record { rows = []; row = []; place = Outside }

abbrev pub rows_in : Place → Reader → Option (List (List Element))
rows_in Outside s = Some s.rows
rows_in _ s = None

-- the arrays of a text of whole lines
abbrev pub json_rows : List ℕ → Option (List (List Element))
json_rows text = rows_in (after Arrays fresh text).place (after Arrays fresh text)

-- names with their values
abbrev pub members_of : List Element → List (List ℕ × Element)
members_of (String name ∷ value ∷ more) = (name, value) ∷ members_of more
members_of elements = []

-- the objects of a text of whole lines, each with its names and their values
abbrev pub json_objects : List ℕ → Option (List (List (List ℕ × Element)))
json_objects text = option_map (map members_of) (rows_in (after Objects fresh text).place (after Objects fresh text))
