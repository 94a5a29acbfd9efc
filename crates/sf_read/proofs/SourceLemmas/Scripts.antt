-- The bytes of a script.
use Rattle.std.proofs.Common.{◌≡◌, ℕ, List, [], ◌∷◌, ◌++◌, Option, refl, sym, ap, ◌∙◌, append_assoc}
use Rattle.sf_read.specs.source.Scripts.{given, bytes_of}

-- those of a text that comes first are the text
pub bytes_given : (text : List ℕ) (left : List (Option ℕ)) → bytes_of (given text ++ left) ≡ text ++ bytes_of left
bytes_given [] left = refl
bytes_given (b ∷ text) left = ap (λ (bytes : List ℕ). b ∷ bytes) (bytes_given text left)

-- those of what is left, where a text was given
pub bytes_left : (old : List (Option ℕ)) (present text rest : List ℕ) (later : List (Option ℕ)) → given present ++ later ≡ old
    → present ≡ text ++ rest → bytes_of old ≡ text ++ bytes_of (given rest ++ later)
bytes_left old present text rest later is parts =
    ap bytes_of (sym is) ∙ bytes_given present later ∙ ap (λ (bytes : List ℕ). bytes ++ bytes_of later) parts
    ∙ append_assoc text rest (bytes_of later)
    ∙ ap (λ (bytes : List ℕ). text ++ bytes) (sym (bytes_given rest later))

-- nothing is left
pub no_bytes : (present : List ℕ) (later : List (Option ℕ)) → present ≡ [] → later ≡ [] → bytes_of (given present ++ later) ≡ []
no_bytes present later none nothing = rw (none, nothing) refl
