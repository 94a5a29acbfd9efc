-- What matches and what begins a matching sequence, as tests that compute. proofs/Deciding shows that they are those of
-- Matching.
use Rattle.std.specs.Prelude.{ℕ, Bool, true, false, ◌&&◌, nat_eq, nat_lt, nat_le, List, [], ◌∷◌, length, Option, Some, None, is_some}
use Rattle.std.specs.Prelude.{unwrap_or}
use Rattle.std.specs.List.{list_all}
pub use Rattle.sf_base.specs.Bytes.{is_ink}
use Rattle.sf_base.specs.Sets.{has_byte}
use Rattle.sf_format.specs.declared.directive.Numeral.{Numeral}
use Rattle.sf_format.specs.declared.directive.Shape.{Shape}
use Rattle.sf_format.specs.declared.directive.Shape.TheVariants.{Int, Text, Set, Chars, Float, Count}
use Rattle.sf_format.specs.declared.directive.Conversion.{Conversion}
use Rattle.sf_float_read.specs.item.Tests.{is_float_of, begins_float_of}
use Rattle.sf_item.specs.Matching.{forms_of}
use Rattle.sf_item.specs.Progress.{Progress, Start, advance, integer_of}

-- how far an integer is read with these bytes, where that can be
abbrev pub read : Numeral → Option Progress → List ℕ → Option Progress
read numeral None f = None
read numeral (Some p) [] = Some p
read numeral (Some p) (b ∷ f) = read numeral (advance numeral p b) f

-- the sign and magnitude of what was read, where that is an integer
abbrev pub integer_in : Option Progress → Option (Bool × ℕ)
integer_in None = None
integer_in (Some p) = integer_of p

-- the sign and magnitude of the whole f, where that is an integer of the numeral
abbrev pub integer_at : Numeral → List ℕ → Option (Bool × ℕ)
integer_at numeral f = integer_in (read numeral (Some Start) f)

-- s is a matching sequence of the shape, of the width if the shape counts bytes
abbrev pub shape_matches : Shape → Option ℕ → List ℕ → Bool
shape_matches (Int numeral) width s = is_some (integer_at numeral s)
shape_matches (Text lead) width s = nat_lt 0 (length s) && list_all is_ink s
shape_matches (Set members) width s = nat_lt 0 (length s) && list_all (has_byte members) s
shape_matches Chars width s = nat_eq (length s) (unwrap_or width 1)
shape_matches (Float lead) width s = is_float_of (forms_of lead) s
shape_matches Count width s = false

-- f is a matching sequence of the shape or a front of one
abbrev pub shape_begins : Shape → Option ℕ → List ℕ → Bool
shape_begins (Int numeral) width f = is_some (read numeral (Some Start) f)
shape_begins (Text lead) width f = list_all is_ink f
shape_begins (Set members) width f = list_all (has_byte members) f
shape_begins Chars width f = nat_le (length f) (unwrap_or width 1)
shape_begins (Float lead) width f = begins_float_of (forms_of lead) f
shape_begins Count width f = false

-- n bytes are within the width, where there is one
abbrev pub is_within : Option ℕ → ℕ → Bool
is_within None n = true
is_within (Some w) n = nat_le n w

-- s is a matching sequence
abbrev pub matches : Conversion → List ℕ → Bool
matches c s = shape_matches c.shape c.width s

-- the front g is within the width and begins a matching sequence
abbrev pub can_take : Conversion → List ℕ → Bool
can_take c g = is_within c.width (length g) && shape_begins c.shape c.width g

-- the shape has an item; the number of bytes consumed takes none
abbrev pub has_item : Shape → Bool
has_item Count = false
has_item _ = true
