-- Mistakes that an input and a format show.
use Rattle.std.specs.Prelude.{ℕ, ◌+◌, ◌-◌, ◌&&◌, ◌||◌, nat_eq, Bool, true, false, not, List, [], ◌∷◌, Option, Some, None, is_some}
use Rattle.std.specs.Prelude.{slice_get}
use Rattle.std.specs.Prelude.{if◌then◌else◌, nat_lt, unwrap_or}
use Rattle.sf_base.specs.Sets.{has_byte}
use Rattle.sf_format.specs.declared.directive.Conversion.{Conversion}
use Rattle.sf_format.specs.declared.directive.Directive.{Directive}
use Rattle.sf_format.specs.declared.directive.Directive.TheVariants.{Byte, Conv}
use Rattle.sf_format.specs.declared.directive.Shape.{Shape}
use Rattle.sf_format.specs.declared.directive.Shape.TheVariants as shape
use Rattle.sf_format.specs.declared.fault.FormatFault.{FormatFault}
use Rattle.sf_format.specs.declared.fault.FormatWhy.{FormatWhy}
use Rattle.sf_format.specs.declared.fault.FormatWhy.TheVariants.{Truncated, UnknownLetter}
use Rattle.sf_messages.specs.Sentences.{is_digit}

-- a byte order mark: U+FEFF in UTF-8
abbrev pub begins_marked : List ℕ → Bool
begins_marked (a ∷ b ∷ c ∷ rest) = nat_eq a 239 && (nat_eq b 187 && nat_eq c 191)
begins_marked _ = false

-- the same in UTF-16, with either byte first
abbrev pub begins_wide : List ℕ → Bool
begins_wide (a ∷ b ∷ rest) = (nat_eq a 255 && nat_eq b 254) || (nat_eq a 254 && nat_eq b 255)
begins_wide _ = false

-- a carriage return, and no more
abbrev pub is_carriage : List ℕ → Bool
is_carriage (b ∷ []) = nat_eq b 13
is_carriage _ = false

-- a set with `[` (91) and `:` (58), with which a class of POSIX begins
abbrev pub is_class_shape : Shape → Bool
is_class_shape (shape.Set members) = has_byte members 91 && has_byte members 58
is_class_shape _ = false

-- such a set, and a `]` (93) after it: so a scan format reads `%[[:digit:]]`
abbrev pub are_class : Option Directive → Option Directive → Bool
are_class (Some (Conv c)) (Some (Byte b)) = nat_eq b 93 && is_class_shape c.shape
are_class _ _ = false

-- the same at the directive with this number
abbrev pub is_class : List Directive → ℕ → Bool
is_class ds number = are_class (slice_get ds (number - 1)) (slice_get ds number)

abbrev pub is_text_shape : Shape → Bool
is_text_shape (shape.Text lead) = true
is_text_shape _ = false

-- a conversion that takes a text up to white space, however long; one that takes a column has a width
abbrev pub is_open_text : Conversion → Bool
is_open_text c = is_text_shape c.shape && not (is_some c.width)

-- the byte that has to stand after such a text: it never does, since no white space is a directive of a byte
abbrev pub byte_of_text : Option Directive → Option Directive → Option ℕ
byte_of_text (Some (Conv c)) (Some (Byte b)) = if is_open_text c then Some b else None
byte_of_text _ _ = None

-- the same at the directive with this number
abbrev pub byte_after_text : List Directive → ℕ → Option ℕ
byte_after_text ds number = byte_of_text (slice_get ds (number - 2)) (slice_get ds (number - 1))

-- ---- a format between double quotes, of which a shell took `$d`: digits stand before the place, and no letter of a conversion at it

-- a letter or `[`; or a byte that stands before a width, or after one elsewhere: `!` (33), `'` (39), `*` (42), `.` (46), `?` (63) and
-- `_` (95)
abbrev pub goes_on : ℕ → Bool
goes_on b =
    (nat_lt 64 b && nat_lt b 92)
    || ((nat_lt 96 b && nat_lt b 123)
    || (nat_eq b 33 || (nat_eq b 39 || (nat_eq b 42 || (nat_eq b 46 || (nat_eq b 63 || nat_eq b 95))))))

-- or `=` (61) before such a byte, as a mark in the wrong place: of `%1$s=%2$d` there is `%1=%2` left, where it stands before none
abbrev pub goes_on_before : ℕ → ℕ → Bool
goes_on_before b next = goes_on b || (nat_eq b 61 && goes_on next)

-- this byte stands before the place, that one at it, where the format doesn't end there, and the next one after it
abbrev pub is_cut_by : FormatWhy → ℕ → ℕ → ℕ → Bool
is_cut_by Truncated before b next = is_digit before
is_cut_by UnknownLetter before b next = is_digit before && not (goes_on_before b next)
is_cut_by why before b next = false

abbrev pub byte_at : List ℕ → ℕ → ℕ
byte_at text at = unwrap_or (slice_get text at) 0

abbrev pub is_cut : List ℕ → FormatFault → Bool
is_cut text fault = is_cut_by fault.why (byte_at text (fault.at - 1)) (byte_at text fault.at) (byte_at text (fault.at + 1))
