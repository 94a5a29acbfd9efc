-- What a word of a command stands for. The number of an integer is written as strtol reads it, but for white space and
-- what follows the digits (C11 7.22.1.4, paragraphs 2 to 5).
use Rattle.std.specs.Prelude.{◌≡◌, ◌⊎◌, ℕ, ◌<◌, ℤ, Bool, true, false, List, [], ◌∷◌, ◌++◌, length, Some}
use Rattle.std.specs.Float.Ieee.{binary64}
use Rattle.std.specs.List.{AllByRecursion}
use Rattle.sf_base.specs.Bytes.{magnitude}
use Rattle.sf_base.specs.Data.{Datum, IsIn}
use Rattle.sf_base.specs.Data.Datum.{Number, Bytes, Real}
use Rattle.sf_base.specs.declared.real.Real.TheVariants as reals
use Rattle.sf_base.specs.declared.values.Kind.{Kind}
use Rattle.sf_format.specs.Digits.{is_decimal}
use Rattle.sf_format.specs.declared.unit.PrintLetter.{PrintLetter}
use Rattle.sf_format.specs.declared.unit.PrintLetter.TheVariants as letter
use Rattle.sf_float_read.specs.item.Sequences.{IsFloat}
use Rattle.sf_float_read.specs.value.Values.{IsStored}
use Rattle.sf_print.specs.texts.Text.{with_sign}
use Rattle.sf_arguments.specs.Readings.{Reads}
use Rattle.sf_arguments.specs.declared.word_reading.WordReading.{WordReading}

-- ---- numbers

-- a sign (true: a minus): a minus; else a plus or nothing
abbrev pub IsSign : Bool → List ℕ → Type 0
IsSign true sign = sign ≡ 45 ∷ []
IsSign false sign = (sign ≡ []) ⊎ (sign ≡ 43 ∷ [])

-- the word is an optional sign and one or more decimal digits, and z is the number that they denote
pub record Denotes (word : List ℕ) (z : ℤ) : Type 0 where
  pub negative : Bool
  pub sign : List ℕ
  pub ds : List ℕ
  pub parts : word ≡ sign ++ ds
  pub signed : IsSign negative sign
  pub some : 0 < length ds
  pub decimal : AllByRecursion (λ b. is_decimal b ≡ true) ds
  pub number : z ≡ with_sign negative (magnitude 10 ds)

-- ---- floats

-- the word is one matching sequence of a float's conversion (C11 7.22.1.3), and the value its number in binary64, which is in range
abbrev pub IsFloatOf : List ℕ → Datum → Type 0
IsFloatOf word value = (bits : ℕ) × IsFloat word × IsStored binary64 word (Some bits) × (value ≡ Real (reals.F64 bits))

-- ---- values

-- a number that its kind holds
abbrev pub IsNumberOf : Kind → List ℕ → Datum → Type 0
IsNumberOf kind word value = (z : ℤ) × Denotes word z × IsIn kind z × (value ≡ Number kind z)

-- What a word stands for where a letter prints a value of a kind: for s the bytes that are read of it, its escapes resolved or as
-- it stands, for c one such byte, for a float's letter a float, else a number of the kind, written as the word stands.
abbrev pub StandsFor : WordReading → PrintLetter → Kind → List ℕ → Datum → Type 0
StandsFor how letter.Text kind word value = (bytes : List ℕ) × Reads how word bytes × (value ≡ Bytes bytes)
StandsFor how letter.One kind word value = (bytes : List ℕ) × Reads how word bytes × (length bytes ≡ 1) × (value ≡ Bytes bytes)
StandsFor how letter.Signed kind word value = IsNumberOf kind word value
StandsFor how letter.Unsigned kind word value = IsNumberOf kind word value
StandsFor how letter.Octal kind word value = IsNumberOf kind word value
StandsFor how letter.HexLower kind word value = IsNumberOf kind word value
StandsFor how letter.HexUpper kind word value = IsNumberOf kind word value
StandsFor how letter.Binary kind word value = IsNumberOf kind word value
StandsFor how (letter.Float style upper) kind word value = IsFloatOf word value

-- the bytes of a word whose value is a text
abbrev pub IsReading : WordReading → PrintLetter → List ℕ → List ℕ → Type 0
IsReading how letter.Text word bytes = Reads how word bytes
IsReading how letter.One word bytes = Reads how word bytes
IsReading how _ word bytes = Unit {0}
