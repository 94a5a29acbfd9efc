-- What may stand before the digits of a number, or before the bytes of a text. With `!` less than C allows.
use Rattle.std.specs.Prelude.{Bool, true, false}
use Rattle.sf_format.specs.declared.directive.Base.{Base}
use Rattle.sf_format.specs.declared.directive.Lead.{Lead}
use Rattle.sf_format.specs.declared.directive.Lead.TheVariants.{Any, Minus, Nothing}
use Rattle.sf_format.specs.declared.directive.Numeral.{Numeral}
use Rattle.sf_format.specs.declared.directive.Shape.{Shape}
use Rattle.sf_format.specs.declared.directive.Shape.TheVariants.{Int, Text, Set, Chars, Float, Count}

-- with ! the numbers that have a sign are written with a minus or none
abbrev pub lead_of_signed : Bool → Lead
lead_of_signed false = Any
lead_of_signed true = Minus

-- with ! nothing stands before the others
abbrev pub lead_of_others : Bool → Lead
lead_of_others false = Any
lead_of_others true = Nothing

-- an integer of the base as C reads it, without !
abbrev pub as_in_c : Base → Numeral
as_in_c base = record { base = base; lead = Any }

-- a plus may stand there
abbrev pub has_plus : Lead → Bool
has_plus Any = true
has_plus Minus = false
has_plus Nothing = false

-- a minus may
abbrev pub has_minus : Lead → Bool
has_minus Any = true
has_minus Minus = true
has_minus Nothing = false

-- the prefix of the base may
abbrev pub has_prefix : Lead → Bool
has_prefix Any = true
has_prefix Minus = true
has_prefix Nothing = false

-- it is that of a conversion with !: no white space is skipped
abbrev pub is_strict_lead : Lead → Bool
is_strict_lead Any = false
is_strict_lead Minus = true
is_strict_lead Nothing = true

abbrev pub is_strict : Shape → Bool
is_strict (Int numeral) = is_strict_lead numeral.lead
is_strict (Text lead) = is_strict_lead lead
is_strict (Set members) = false
is_strict Chars = false
is_strict (Float lead) = is_strict_lead lead
is_strict Count = false
