-- The grammar of print formats (C11 7.21.6.1p3 to p8, POSIX fprintf for the numbers).
use Rattle.std.specs.Prelude.{◌≡◌, ◌≢◌, ℕ, ◌<◌, ◌≤◌, Bool, true, false, List, [], ◌∷◌, Option, Some, IsSome, IfSome, nat_eq}
use Prim.Native.Char.{code}
use Rattle.std.specs.List.{AllByRecursion, list_any}
use Rattle.std.specs.Option.{option_map}
use Rattle.sf_base.specs.Bytes.{magnitude}
use Rattle.sf_format.specs.declared.directive.Profile.{Profile}
use Rattle.sf_format.specs.declared.unit.PrintLetter.{PrintLetter}
use Rattle.sf_format.specs.declared.unit.PrintConv.{PrintConv}
use Rattle.sf_format.specs.declared.unit.Unit.{Unit as PrintUnit}
use Rattle.sf_format.specs.declared.unit.Unit.TheVariants as unit
use Rattle.sf_format.specs.Digits.{is_decimal, IsOptionalNumber}
use Rattle.sf_format.specs.Slots.{slot_of}
use Rattle.sf_format.specs.PrintLetters.{print_letter_of, print_kind_of, is_flag}
use Rattle.sf_format.specs.Units.{has_flag, HasPrecision}
use Rattle.sf_format.specs.Pieces.{Opening, Piece, Ordinary, Percents, Plain}

-- the digits after a point; none stand for 0
abbrev pub IsPrecision : List ℕ → Type 0
IsPrecision ds = AllByRecursion (λ b. is_decimal b ≡ true) ds × (magnitude 10 ds ≤ 255)

-- digits, the first of which is no 0
abbrev pub StartsAboveZero : List ℕ → Type 0
StartsAboveZero [] = Unit {0}
StartsAboveZero (d ∷ ds) = d ≢ code "0"

-- the letter may end a conversion specification that opens so
pub record SuitsPrint (letter : PrintLetter) (o : Opening) : Type 0 where
  pub number : IsOptionalNumber 32 o.number
  pub star : o.star ≡ false
  pub optional : o.optional ≡ false
  pub column : o.column ≡ false
  pub strict : o.strict ≡ false
  -- of - + space # 0, and only those that the letter has
  pub flags : AllByRecursion (λ b. is_flag b ≡ true) o.flags
  pub had : AllByRecursion (λ b. has_flag letter b ≡ true) o.flags
  pub width : IsOptionalNumber 65535 o.width
  pub first : StartsAboveZero o.width
  pub precision : IfSome o.precision IsPrecision
  pub one : HasPrecision letter (option_map (λ ds. magnitude 10 ds) o.precision)
  pub size : IsSome (print_kind_of letter o.size)

-- a part of a print format, seen alone
abbrev pub IsPrintPiece : Profile → Piece → Type 0
IsPrintPiece profile (Ordinary b) = (b < 256) × (b ≢ 0) × (b ≢ code "%")
IsPrintPiece profile Percents = Unit {0}
IsPrintPiece profile (Plain o b) = (letter : PrintLetter) × (print_letter_of profile b ≡ Some letter) × SuitsPrint letter o
IsPrintPiece profile _ = ⊥

abbrev pub is_set_flag : ℕ → List ℕ → Bool
is_set_flag flag flags = list_any (λ a. nat_eq a flag) flags

-- what a conversion specification stands for, where place is that of a value without a number
pub record IsPrintConv (place : ℕ) (o : Opening) (letter : PrintLetter) (c : PrintConv) : Type 0 where
  pub prints : c.letter ≡ letter
  pub kind : print_kind_of letter o.size ≡ Some c.kind
  pub slot : slot_of place o ≡ Some c.slot
  pub minus : c.minus ≡ is_set_flag (code "-") o.flags
  pub plus : c.plus ≡ is_set_flag (code "+") o.flags
  pub blank : c.blank ≡ is_set_flag (code " ") o.flags
  pub alt : c.alt ≡ is_set_flag (code "#") o.flags
  pub zero : c.zero ≡ is_set_flag (code "0") o.flags
  pub width : c.width ≡ magnitude 10 o.width
  pub precision : c.precision ≡ option_map (λ ds. magnitude 10 ds) o.precision

-- the unit that a part stands for; %% stands for the byte %
abbrev pub Prints : Profile → ℕ → Piece → PrintUnit → Type 0
Prints profile place (Ordinary b) u = u ≡ unit.Byte b
Prints profile place Percents u = u ≡ unit.Byte (code "%")
Prints profile place (Plain o b) u =
    (letter : PrintLetter) × (c : PrintConv) × (print_letter_of profile b ≡ Some letter) × IsPrintConv place o letter c × (u ≡ unit.Conv c)
Prints profile place _ u = ⊥

-- the same, where parts could open groups, which those of print formats never do
abbrev pub PrintsApart : Profile → Option ℕ → ℕ → Piece → PrintUnit → Type 0
PrintsApart profile opens place piece u = Prints profile place piece u
