-- Texts, and what they read as: each is proved by computing.
use Rattle.std.proofs.Common.{◌≡◌, [], ◌∷◌, Some, None, pos, negsuc, refl}
use Rattle.std.specs.Prelude.{codes}
use Rattle.sf_forms.specs.JsonReading.{Decimal, Integer, Null, String, json_rows}
use Rattle.sf_forms.specs.Tables.{table_of}

-- a tab, a line end and a backslash within a field; an empty record
fields : table_of (codes "a\\t\t\\\\n\n\n") ≡ ((97 ∷ 9 ∷ []) ∷ (92 ∷ 110 ∷ []) ∷ []) ∷ ([] ∷ []) ∷ []
fields = refl

-- white space, a number with a minus, an empty array, and each way to write a character
elements : json_rows (codes "[ 1 ,\t-20]\n[]\n") ≡ Some ((Integer (pos 1) ∷ Integer (negsuc 19) ∷ []) ∷ [] ∷ [])
elements = refl

characters : json_rows (codes "[\"a\\u0041\\/\\n\\uDC80\"]\n") ≡ Some ((String (97 ∷ 65 ∷ 47 ∷ 10 ∷ 128 ∷ []) ∷ []) ∷ [])
characters = refl

-- null, numbers with a fraction and with an exponent, and an integer
numbers : json_rows (codes "[null,-1.5,20e-3, 1.0E+9 ,7]\n")
    ≡ Some ((Null ∷ Decimal (codes "-1.5") ∷ Decimal (codes "20e-3") ∷ Decimal (codes "1.0E+9") ∷ Integer (pos 7) ∷ []) ∷ [])
numbers = refl

-- a number that ends with its point or with the letter of its exponent isn't read, nor is part of null
no_fraction : json_rows (codes "[1.]\n") ≡ None
no_fraction = refl

no_exponent : json_rows (codes "[1e]\n") ≡ None
no_exponent = refl

no_null : json_rows (codes "[nul]\n") ≡ None
no_null = refl

-- what is cut short, or has a code that stands for no byte, isn't read
cut_short : json_rows (codes "[1\n") ≡ None
cut_short = refl

no_byte : json_rows (codes "[\"\\ud800\"]\n") ≡ None
no_byte = refl
