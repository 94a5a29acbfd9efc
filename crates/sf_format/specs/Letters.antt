-- The letters and lengths of conversion specifications (C11 7.21.6.2p11, p12).
use Rattle.std.specs.Prelude.{ℕ, Bool, true, false, List, [], ◌∷◌, Option, Some, None, if◌then◌else◌, codes}
use Rattle.sf_base.specs.declared.values.Kind.{Kind}
use Rattle.sf_base.specs.declared.values.Kind.TheVariants as kind
use Rattle.sf_format.specs.declared.directive.Profile.{Profile}
use Rattle.sf_format.specs.declared.directive.Profile.TheVariants.{One, Two, Three}
use Rattle.sf_format.specs.declared.directive.Base.{Base}
use Rattle.sf_format.specs.declared.directive.Base.TheVariants.{Dec, Oct, Hex, Bin, Auto, AutoBin}
use Rattle.sf_format.specs.declared.letter.Letter.{Letter}
use Rattle.sf_format.specs.declared.letter.Letter.TheVariants.{Signed, Unsigned, Chars, Text, Set, Count, Float}
use Rattle.sf_format.specs.declared.letter.Values.{Values}
use Rattle.sf_format.specs.declared.letter.Values.TheVariants as values
use Rattle.sf_format.specs.declared.letter.Length.{Length}
use Rattle.sf_format.specs.declared.letter.Length.TheVariants.{NoLength, HH, H, LL, L, J, Z, T}
use Rattle.sf_format.specs.Lists.{is_any_of}

-- how i reads the digits
abbrev pub auto_base : Profile → Base
auto_base One = Auto
auto_base Two = AutoBin
auto_base Three = AutoBin

-- the letters of floats, ?, =, ! and groups, of profile 3
abbrev pub has_doubles : Profile → Bool
has_doubles Three = true
has_doubles _ = false

-- b, from profile 2 on, and floats, from profile 3 on
abbrev pub added_letters : Profile → List (List ℕ × Letter)
added_letters One = []
added_letters Two = (codes "b", Unsigned Bin) ∷ []
added_letters Three = (codes "b", Unsigned Bin) ∷ (codes "aAeEfFgG", Float) ∷ []

-- the table of the letters of scan formats: a row each, as in docs/FORMATS.md
abbrev pub letters : Profile → List (List ℕ × Letter)
letters profile =
    (codes "d", Signed Dec)
    ∷ (codes "i", Signed (auto_base profile))
    ∷ (codes "u", Unsigned Dec)
    ∷ (codes "o", Unsigned Oct)
    ∷ (codes "xX", Unsigned Hex)
    ∷ (codes "s", Text)
    ∷ (codes "[", Set)
    ∷ (codes "c", Chars)
    ∷ (codes "n", Count)
    ∷ added_letters profile

-- the row of the byte
abbrev pub find_letter : {L : Type 0} → List (List ℕ × L) → ℕ → Option L
find_letter [] b = None
find_letter (row ∷ rows) b = if is_any_of row.0 b then Some row.1 else find_letter rows b

-- what the byte converts as a letter
abbrev pub letter_of : Profile → ℕ → Option Letter
letter_of profile b = find_letter (letters profile) b

-- how a length is written
abbrev pub length_text : Length → List ℕ
length_text NoLength = []
length_text HH = codes "hh"
length_text H = codes "h"
length_text LL = codes "ll"
length_text L = codes "l"
length_text J = codes "j"
length_text Z = codes "z"
length_text T = codes "t"

-- the kinds of LP64
abbrev pub signed_kind : Length → Kind
signed_kind NoLength = kind.I32
signed_kind HH = kind.I8
signed_kind H = kind.I16
signed_kind _ = kind.I64

abbrev pub unsigned_kind : Length → Kind
unsigned_kind NoLength = kind.U32
unsigned_kind HH = kind.U8
unsigned_kind H = kind.U16
unsigned_kind _ = kind.U64

-- a text has no length
abbrev pub text_kind : Length → Option Kind
text_kind NoLength = Some kind.Text
text_kind _ = None

-- a float of binary64 has no length, or l
abbrev pub double_kind : Length → Option Kind
double_kind NoLength = Some kind.F64
double_kind L = Some kind.F64
double_kind _ = None

-- a float that is stored: of binary32, or with l of binary64 (C11 7.21.6.2p11)
abbrev pub float_kind : Length → Option Kind
float_kind NoLength = Some kind.F32
float_kind L = Some kind.F64
float_kind _ = None

-- the kind of such values with a length, where they have it
abbrev pub sized_kind : Values → Length → Option Kind
sized_kind values.Signed size = Some (signed_kind size)
sized_kind values.Unsigned size = Some (unsigned_kind size)
sized_kind values.Text size = text_kind size
sized_kind values.Double size = double_kind size
sized_kind values.Float size = float_kind size

-- what a letter stores
abbrev pub stored_values : Letter → Values
stored_values (Signed base) = values.Signed
stored_values (Unsigned base) = values.Unsigned
stored_values Count = values.Signed
stored_values Float = values.Float
stored_values _ = values.Text

-- the kind of a letter with a length, where the letter has it
abbrev pub kind_of : Letter → Length → Option Kind
kind_of letter size = sized_kind (stored_values letter) size
