-- The flags and letters of conversion specifications of print formats (C11 7.21.6.1p6 to p8).
use Rattle.std.specs.Prelude.{ℕ, Bool, true, false, List, [], ◌∷◌, Option, find, codes}
use Rattle.sf_base.specs.declared.values.Kind.{Kind}
use Rattle.sf_format.specs.declared.directive.Profile.{Profile}
use Rattle.sf_format.specs.declared.directive.Profile.TheVariants.{One, Two, Three}
use Rattle.sf_format.specs.declared.letter.Values.{Values}
use Rattle.sf_format.specs.declared.letter.Values.TheVariants as values
use Rattle.sf_format.specs.declared.letter.Length.{Length}
use Rattle.sf_format.specs.declared.unit.FloatStyle.{FloatStyle}
use Rattle.sf_format.specs.declared.unit.FloatStyle.TheVariants.{Fixed, Exponent, General, Hexadecimal}
use Rattle.sf_format.specs.declared.unit.PrintLetter.{PrintLetter}
use Rattle.sf_format.specs.declared.unit.PrintLetter.TheVariants as letter
use Rattle.sf_format.specs.Lists.{is_any_of}
use Rattle.sf_format.specs.Letters.{sized_kind}

-- a flag
abbrev pub is_flag : ℕ → Bool
is_flag b = is_any_of (codes "-+ #0") b

-- a row of the table of letters: the bytes of the letter, what it prints, and the flags that it has (C11 7.21.6.1p6)
pub record PrintRow : Type 0 where
  pub bytes : List ℕ
  pub prints : Values
  pub flags : List ℕ

abbrev row : List ℕ → Values → List ℕ → PrintRow
row bytes prints flags = record { bytes = bytes; prints = prints; flags = flags }

-- f e g a, and the capitals
abbrev pub float_bytes : FloatStyle → Bool → List ℕ
float_bytes Fixed false = codes "f"
float_bytes Fixed true = codes "F"
float_bytes Exponent false = codes "e"
float_bytes Exponent true = codes "E"
float_bytes General false = codes "g"
float_bytes General true = codes "G"
float_bytes Hexadecimal false = codes "a"
float_bytes Hexadecimal true = codes "A"

-- the table of the letters of print formats: a row each, as in docs/FORMATS.md; b is of profile 2, and floats are of profile 3
abbrev pub print_row : PrintLetter → PrintRow
print_row letter.Signed = row (codes "di") values.Signed (codes "-+ 0")
print_row letter.Unsigned = row (codes "u") values.Unsigned (codes "-0")
print_row letter.Octal = row (codes "o") values.Unsigned (codes "-#0")
print_row letter.HexLower = row (codes "x") values.Unsigned (codes "-#0")
print_row letter.HexUpper = row (codes "X") values.Unsigned (codes "-#0")
print_row letter.Text = row (codes "s") values.Text (codes "-")
print_row letter.One = row (codes "c") values.Text (codes "-")
print_row letter.Binary = row (codes "b") values.Unsigned (codes "-#0")
print_row (letter.Float style upper) = row (float_bytes style upper) values.Double (codes "-+ #0")

-- the letters of floats
abbrev pub float_letters : List PrintLetter
float_letters =
    letter.Float Fixed false ∷ letter.Float Fixed true ∷ letter.Float Exponent false ∷ letter.Float Exponent true
    ∷ letter.Float General false ∷ letter.Float General true ∷ letter.Float Hexadecimal false ∷ letter.Float Hexadecimal true ∷ []

-- the letters of a profile
abbrev pub added_print_letters : Profile → List PrintLetter
added_print_letters One = []
added_print_letters Two = letter.Binary ∷ []
added_print_letters Three = letter.Binary ∷ float_letters

abbrev pub print_letters : Profile → List PrintLetter
print_letters profile =
    letter.Signed ∷ letter.Unsigned ∷ letter.Octal ∷ letter.HexLower ∷ letter.HexUpper ∷ letter.Text ∷ letter.One ∷ added_print_letters
    profile

-- the letter that the byte is
abbrev pub letter_among : List PrintLetter → ℕ → Option PrintLetter
letter_among letters b = find (λ l. is_any_of (print_row l).bytes b) letters

-- what the byte prints as a letter
abbrev pub print_letter_of : Profile → ℕ → Option PrintLetter
print_letter_of profile b = letter_among (print_letters profile) b

-- the kind of a letter with a length, where the letter has it
abbrev pub print_kind_of : PrintLetter → Length → Option Kind
print_kind_of l size = sized_kind (print_row l).prints size
