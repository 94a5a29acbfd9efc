-- What matches and what begins a matching sequence, as tests that compute. The law `TestsAreSequences` says that they are those of
-- Sequences and Steps.
use Rattle.std.specs.Prelude.{◌≡◌, ◌↔◌, ℕ, Bool, true, false, ◌||◌, ◌==◌, if◌then◌else◌, List, [], ◌∷◌, Option, Some, None, is_some}
use Rattle.std.specs.Char.{is_ascii_digit, is_ascii_alphanumeric, to_ascii_lowercase}
use Rattle.sf_float_read.specs.declared.item.reached.Forms.{Forms}
use Rattle.sf_float_read.specs.declared.item.reached.Forms.TheVariants.{All, Decimal}
use Rattle.sf_float_read.specs.declared.item.reached.Radix.{Radix}
use Rattle.sf_float_read.specs.declared.item.reached.Radix.TheVariants.{Ten, Sixteen}
use Rattle.sf_float_read.specs.declared.item.reached.Reached.{Reached}
use Rattle.sf_float_read.specs.declared.item.reached.Reached.TheVariants as at
use Rattle.sf_float_read.specs.item.Sequences.{is_digit, opens_exponent, is_sign, IsFloatOf}
use Rattle.sf_float_read.specs.item.Steps.{BeginsFloat}

-- ---- how far it is read with one byte more, where that begins a matching sequence

abbrev pub after_exponent : ℕ → Option Reached
after_exponent b = if is_ascii_digit b then Some at.Exponent else None

abbrev pub after_letter : ℕ → Option Reached
after_letter b = if is_sign b then Some at.LetterSign else after_exponent b

abbrev pub letter_of_exponent : Radix → ℕ → Option Reached
letter_of_exponent radix b = if opens_exponent radix b then Some at.Letter else None

abbrev pub after_point : Radix → ℕ → Option Reached
after_point radix b = if is_digit radix b then Some (at.Fraction radix) else None

abbrev pub after_fraction : Radix → ℕ → Option Reached
after_fraction radix b = if is_digit radix b then Some (at.Fraction radix) else letter_of_exponent radix b

abbrev pub after_digits : Radix → ℕ → Option Reached
after_digits radix b =
    if is_digit radix b then Some (at.Whole radix) else (if b == 46 then Some (at.Fraction radix) else letter_of_exponent radix b)

abbrev pub first_of_number : Radix → ℕ → Option Reached
first_of_number radix b = if is_digit radix b then Some (at.Whole radix) else (if b == 46 then Some (at.Point radix) else None)

abbrev pub after_zero : ℕ → Option Reached
after_zero b = if b == 120 || b == 88 then Some at.Prefix else after_digits Ten b

-- the letter, in either case
abbrev pub letter : ℕ → ℕ → Reached → Option Reached
letter b lower place = if to_ascii_lowercase b == lower then Some place else None

abbrev pub first : ℕ → Option Reached
first b =
    if b == 48 then Some at.Zero
    else (if to_ascii_lowercase b == 105 then Some at.I else (if to_ascii_lowercase b == 110 then Some at.N else first_of_number Ten b))

abbrev pub in_parentheses : ℕ → Option Reached
in_parentheses b = if b == 41 then Some at.Closed else (if is_ascii_alphanumeric b || b == 95 then Some at.Open else None)

abbrev pub next : Reached → ℕ → Option Reached
next at.Start b = if is_sign b then Some at.Signed else first b
next at.Signed b = first b
next at.DecimalStart b = if b == 45 then Some at.DecimalSigned else first_of_number Ten b
next at.DecimalSigned b = first_of_number Ten b
next at.Zero b = after_zero b
next at.Prefix b = first_of_number Sixteen b
next (at.Whole radix) b = after_digits radix b
next (at.Point radix) b = after_point radix b
next (at.Fraction radix) b = after_fraction radix b
next at.Letter b = after_letter b
next at.LetterSign b = after_exponent b
next at.Exponent b = after_exponent b
next at.I b = letter b 110 at.In
next at.In b = letter b 102 at.Inf
next at.Inf b = letter b 105 at.Infi
next at.Infi b = letter b 110 at.Infin
next at.Infin b = letter b 105 at.Infini
next at.Infini b = letter b 116 at.Infinit
next at.Infinit b = letter b 121 at.Infinity
next at.Infinity b = None
next at.N b = letter b 97 at.Na
next at.Na b = letter b 110 at.Nan
next at.Nan b = if b == 40 then Some at.Open else None
next at.Open b = in_parentheses b
next at.Closed b = None

-- ---- texts

-- how far it is read with these bytes, where that can be
abbrev pub read : Option Reached → List ℕ → Option Reached
read None f = None
read (Some r) [] = Some r
read (Some r) (b ∷ f) = read (next r b) f

-- what was read is a matching sequence
abbrev pub is_whole : Reached → Bool
is_whole at.Zero = true
is_whole (at.Whole radix) = true
is_whole (at.Fraction radix) = true
is_whole at.Exponent = true
is_whole at.Inf = true
is_whole at.Infinity = true
is_whole at.Nan = true
is_whole at.Closed = true
is_whole _ = false

abbrev pub is_whole_at : Option Reached → Bool
is_whole_at None = false
is_whole_at (Some r) = is_whole r

-- where the forms are read from
abbrev pub start_of : Forms → Reached
start_of All = at.Start
start_of Decimal = at.DecimalStart

-- f is a matching sequence of these forms
abbrev pub is_float_of : Forms → List ℕ → Bool
is_float_of forms f = is_whole_at (read (Some (start_of forms)) f)

-- f is a matching sequence of these forms or a front of one
abbrev pub begins_float_of : Forms → List ℕ → Bool
begins_float_of forms f = is_some (read (Some (start_of forms)) f)

-- the same of all forms
abbrev pub is_float : List ℕ → Bool
is_float f = is_float_of All f

abbrev pub begins_float : List ℕ → Bool
begins_float f = begins_float_of All f

abbrev pub TestsAreSequences : Type 0
TestsAreSequences = (forms : Forms) (f : List ℕ) → (is_float_of forms f ≡ true ↔ IsFloatOf forms f)
    × (begins_float_of forms f ≡ true ↔ BeginsFloat forms f)
