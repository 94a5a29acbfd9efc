-- Escapes in the words of a command: a backslash and a letter, or a backslash, an x and two hexadecimal digits, stand for
-- one byte; every other byte stands for itself.
use Rattle.std.specs.Prelude.{◌≡◌, ◌<◌, ◌&&◌, nat_eq, nat_lt, ℕ, ◌+◌, ◌*◌, if◌then◌else◌, List, [], ◌∷◌, length, drop, Option, Some, None}
use Rattle.std.specs.Char.{digit_value}
use Rattle.sf_arguments.specs.declared.escape.Piece.{Piece}
use Rattle.sf_arguments.specs.declared.escape.EscapeFault.{EscapeFault}
use Rattle.sf_arguments.specs.declared.escape.EscapeFault.TheVariants.{Bad, Memory}

-- the byte that a backslash and this one stand for
abbrev pub letter_byte : ℕ → Option ℕ
letter_byte c =
    if nat_eq c 92 then Some 92
    else if nat_eq c 110 then Some 10
    else if nat_eq c 116 then Some 9
    else if nat_eq c 118 then Some 11
    else if nat_eq c 102 then Some 12
    else if nat_eq c 114 then Some 13
    else None

abbrev pub letter_piece : Option ℕ → Option Piece
letter_piece (Some b) = Some (record { byte = b; size = 2 })
letter_piece None = None

abbrev pub hex_piece : ℕ → ℕ → Option Piece
hex_piece high low =
    if nat_lt (digit_value high) 16 && nat_lt (digit_value low) 16 then Some
    (record { byte = digit_value high * 16 + digit_value low; size = 4 }) else None

-- after x
abbrev pub hex_behind : List ℕ → Option Piece
hex_behind (high ∷ low ∷ rest) = hex_piece high low
hex_behind _ = None

-- after a backslash
abbrev pub escape_behind : List ℕ → Option Piece
escape_behind [] = None
escape_behind (c ∷ rest) = if nat_eq c 120 then hex_behind rest else letter_piece (letter_byte c)

-- the front of a word; none where it is empty or begins with a bad escape
abbrev pub piece_of : List ℕ → Option Piece
piece_of [] = None
piece_of (b ∷ rest) = if nat_eq b 92 then escape_behind rest else Some (record { byte = b; size = 1 })

-- the first `count` bytes of the word are whole pieces, which stand for these bytes
abbrev pub Stands : List ℕ → ℕ → List ℕ → Type 0
Stands word count [] = count ≡ 0
Stands word count (b ∷ bytes) =
    (size rest : ℕ) × (piece_of word ≡ Some (record { byte = b; size = size })) × (count ≡ size + rest) × Stands (drop size word) rest bytes

-- the word stands for the bytes
abbrev pub Unescapes : List ℕ → List ℕ → Type 0
Unescapes word bytes = Stands word (length word) bytes

-- the first bad escape of the word is at this place: the pieces before it are good
abbrev pub IsBadEscape : List ℕ → ℕ → Type 0
IsBadEscape word at = (at < length word) × (piece_of (drop at word) ≡ None) × ((before : List ℕ) × Stands word at before)

-- want of memory is reported for a word without a bad escape
abbrev pub IsFaultOf : List ℕ → EscapeFault → Type 0
IsFaultOf word (Bad at) = IsBadEscape word at
IsFaultOf word Memory = (bytes : List ℕ) × Unescapes word bytes
