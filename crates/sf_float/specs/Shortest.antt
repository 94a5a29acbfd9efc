-- The short text of a float, which reads back as that float.
use Rattle.std.specs.Prelude.{ℕ, List, ◌++◌, [], codes}
use Rattle.std.specs.Float.Ieee.{Float, nan, inf, fin}
use Rattle.std.specs.Fmt.{sign_text}

-- `nan`, `inf` and `-inf`; nothing of a finite float
abbrev pub word_of : Float → List ℕ
word_of nan = codes "nan"
word_of (inf negative) = sign_text negative ++ codes "inf"
word_of (fin negative m e) = []
