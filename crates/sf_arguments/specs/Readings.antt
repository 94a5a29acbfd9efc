-- How the bytes of a word are read: with its escapes resolved, or as it stands.
use Rattle.std.specs.Prelude.{◌≡◌, ℕ, List}
use Rattle.sf_arguments.specs.Escapes.{IsBadEscape, Unescapes}
use Rattle.sf_arguments.specs.declared.word_reading.WordReading.{WordReading}
use Rattle.sf_arguments.specs.declared.word_reading.WordReading.TheVariants.{Escaped, Raw}

-- the word, read so, stands for the bytes
abbrev pub Reads : WordReading → List ℕ → List ℕ → Type 0
Reads Escaped word bytes = Unescapes word bytes
Reads Raw word bytes = bytes ≡ word

-- it stands for none, by its first bad escape, which is at this place; as it stands, each word stands for some
abbrev pub IsUnread : WordReading → List ℕ → ℕ → Type 0
IsUnread Escaped word at = IsBadEscape word at
IsUnread Raw word at = ⊥
