-- Texts with white space at their ends, and without.
use Rattle.std.specs.Prelude.{◌≡◌, ℕ, Bool, false, if◌then◌else◌, List, [], ◌∷◌, ◌++◌}
use Rattle.std.specs.List.{list_all}
use Rattle.sf_base.specs.Bytes.{is_white, AreWhite}

-- the first byte is no white space
abbrev pub StartsWithInk : List ℕ → Type 0
StartsWithInk [] = ⊥
StartsWithInk (b ∷ t) = is_white b ≡ false

-- the last byte is no white space
abbrev pub EndsWithInk : List ℕ → Type 0
EndsWithInk t = (front : List ℕ) × (last : ℕ) × (t ≡ front ++ last ∷ []) × (is_white last ≡ false)

-- t is what is left of s without the white space at both ends, and has a byte
pub record IsTrimmed (s t : List ℕ) : Type 0 where
  pub before : List ℕ
  pub after : List ℕ
  pub whole : s ≡ before ++ (t ++ after)
  pub white_before : AreWhite before
  pub white_after : AreWhite after
  pub starts : StartsWithInk t
  pub ends : EndsWithInk t

-- ---- the same as functions

-- each byte is white space
abbrev pub are_white : List ℕ → Bool
are_white s = list_all is_white s

-- without the white space in front
abbrev pub trimmed_front : List ℕ → List ℕ
trimmed_front [] = []
trimmed_front (b ∷ s) = if is_white b then trimmed_front s else b ∷ s

-- b before what is left of the text after it
abbrev pub kept_before : ℕ → List ℕ → List ℕ
kept_before b [] = if is_white b then [] else b ∷ []
kept_before b (c ∷ t) = b ∷ c ∷ t

-- without the white space at the end
abbrev pub trimmed_end : List ℕ → List ℕ
trimmed_end [] = []
trimmed_end (b ∷ s) = kept_before b (trimmed_end s)

-- without the white space at both ends
abbrev pub trimmed : List ℕ → List ℕ
trimmed s = trimmed_end (trimmed_front s)
