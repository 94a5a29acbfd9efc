-- The rules that conversion specifications of print formats have to keep, in order.
use Rattle.std.specs.Prelude.{ℕ, ◌+◌, Bool, true, false, not, ◌&&◌, ◌||◌, List, [], ◌∷◌, length, Option, Some, None, is_some, is_none}
use Rattle.std.specs.Prelude.{nat_eq, nat_lt, codes}
use Rattle.std.specs.List.{position_from}
use Rattle.sf_base.specs.Bytes.{magnitude}
use Rattle.sf_format.specs.declared.directive.Profile.{Profile}
use Rattle.sf_format.specs.declared.fault.FormatWhy.TheVariants.{TooWide, UnknownLetter, LeftOut, BadLength, BadNumber, Nul, BadFlag}
use Rattle.sf_format.specs.declared.fault.FormatWhy.TheVariants.{PrecisionTooLarge}
use Rattle.sf_format.specs.declared.letter.Length.{Length}
use Rattle.sf_format.specs.declared.unit.PrintLetter.{PrintLetter}
use Rattle.sf_format.specs.declared.unit.PrintLetter.TheVariants.{One}
use Rattle.sf_format.specs.Lists.{is_any_of, is_written}
use Rattle.sf_format.specs.Letters.{has_doubles}
use Rattle.sf_format.specs.PrintLetters.{print_letter_of}
use Rattle.sf_format.specs.Units.{has_flag}
use Rattle.sf_format.specs.Pieces.{Opening, number_text}
use Rattle.sf_format.specs.Rules.{Rule, takes_text, takes_double, has_length, is_l, or_zero}

-- a letter, a length or a mark that C or POSIX has; the letters of floats are of profile 3
abbrev pub is_print_left_out : Profile → ℕ → Bool
is_print_left_out profile b = is_any_of (codes "*'nLpCS") b || (takes_double b && not (has_doubles profile))

-- a length that floats don't have
abbrev pub is_other_length : Length → Bool
is_other_length size = has_length size && not (is_l size)

-- where the flags begin, the width, and the point; p is the place of the %
abbrev pub flags_place : ℕ → Opening → ℕ
flags_place p o = p + 1 + length (number_text o.number)

abbrev pub width_place : ℕ → Opening → ℕ
width_place p o = flags_place p o + length o.flags

abbrev pub point_place : ℕ → Opening → ℕ
point_place p o = width_place p o + length o.width

-- the number that a precision stands for, 0 where there is none
abbrev pub precision_number : Option (List ℕ) → ℕ
precision_number None = 0
precision_number (Some ds) = magnitude 10 ds

-- the parts before the letter
abbrev pub print_opening_rules : ℕ → Opening → List Rule
print_opening_rules p o =
    let number = magnitude 10 o.number in
    record { why = BadNumber; applies = is_written o.number && (nat_eq number 0 || nat_lt 32 number); at = p + 1 }
    ∷ record { why = TooWide; applies = nat_lt 65535 (magnitude 10 o.width); at = width_place p o }
    ∷ record { why = PrecisionTooLarge; applies = nat_lt 255 (precision_number o.precision); at = point_place p o + 1 }
    ∷ []

-- the leftmost flag that the letter doesn't have, counted from n
abbrev pub foreign_flag : PrintLetter → ℕ → List ℕ → Option ℕ
foreign_flag letter n flags = position_from (λ b. not (has_flag letter b)) n flags

-- c takes no precision
abbrev pub takes_one : PrintLetter → Bool
takes_one One = true
takes_one _ = false

-- the letter, at q
abbrev pub print_letter_rules : Profile → Opening → ℕ → ℕ → List Rule
print_letter_rules profile o b q =
    record { why = Nul; applies = nat_eq b 0; at = q }
    ∷ record { why = LeftOut; applies = is_print_left_out profile b; at = q }
    ∷ record { why = UnknownLetter; applies = is_none (print_letter_of profile b); at = q }
    ∷ record { why = LeftOut; applies = takes_text b && is_l o.size; at = q }
    ∷ record { why = BadLength; applies = takes_text b && has_length o.size; at = q }
    ∷ record { why = BadLength; applies = takes_double b && is_other_length o.size; at = q }
    ∷ []

-- what stands before the letter, if the letter doesn't have it
abbrev pub flag_rules : ℕ → Opening → Option PrintLetter → List Rule
flag_rules p o None = []
flag_rules p o (Some letter) =
    let foreign = foreign_flag letter (flags_place p o) o.flags in
    record { why = BadFlag; applies = is_some foreign; at = or_zero foreign }
    ∷ record { why = BadFlag; applies = takes_one letter && is_some o.precision; at = point_place p o }
    ∷ []
