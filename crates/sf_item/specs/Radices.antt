-- In which radix the digits of an integer are read (C11 7.21.6.2p12, 7.22.1.4p3; base 2 is ours).
use Rattle.std.specs.Prelude.{ℕ, ◌||◌, nat_eq, if◌then◌else◌, Option, Some, None}
use Rattle.sf_format.specs.declared.directive.Base.{Base}
use Rattle.sf_format.specs.declared.directive.Numeral.{Numeral}
use Rattle.sf_format.specs.Leads.{has_prefix}
use Rattle.sf_format.specs.declared.directive.Base.TheVariants.{Dec, Oct, Hex, Bin, Auto, AutoBin}

pub record Radices : Type 0 where
  -- the radix of an integer whose first digit is not 0
  pub first : ℕ
  -- of one whose first digit is 0, without a prefix
  pub zero : ℕ
  -- after 0x or 0X, where the base has that prefix
  pub x : Option ℕ
  -- after 0b or 0B, where the base has that prefix
  pub b : Option ℕ

abbrev pub radices : Base → Radices
radices Dec = record { first = 10; zero = 10; x = None; b = None }
radices Oct = record { first = 8; zero = 8; x = None; b = None }
radices Hex = record { first = 16; zero = 16; x = Some 16; b = None }
radices Bin = record { first = 2; zero = 2; x = None; b = Some 2 }
radices Auto = record { first = 10; zero = 8; x = Some 16; b = None }
radices AutoBin = record { first = 10; zero = 8; x = Some 16; b = Some 2 }

abbrev pub first_radix : Numeral → ℕ
first_radix numeral = (radices numeral.base).first

abbrev pub zero_radix : Numeral → ℕ
zero_radix numeral = (radices numeral.base).zero

-- the radix that the byte makes as the letter of a prefix
abbrev pub radix_of_letter : Radices → ℕ → Option ℕ
radix_of_letter radices letter =
    if nat_eq letter 120 || nat_eq letter 88 then radices.x
    else if nat_eq letter 98 || nat_eq letter 66 then radices.b
    else None

-- the same after a first 0, where a prefix may stand there
abbrev pub prefix_radix : Numeral → ℕ → Option ℕ
prefix_radix numeral letter = if has_prefix numeral.lead then radix_of_letter (radices numeral.base) letter else None
