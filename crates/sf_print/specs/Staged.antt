-- A text on its way to a sink: its front was taken, the bytes after it are held.
use Rattle.std.specs.Prelude.{◌≡◌, ◌<◌, ℕ, List, ◌++◌, length, take, Option, Result, Ok, Err}
use Rattle.std.specs.Io.KnownBytes.{Appends}
use Rattle.sf_print.specs.declared.stage.Stage.{Stage}

-- the bytes that are held
abbrev pub held : Stage → List ℕ
held s = take s.len s.buf

-- since `old` the sink took this many bytes of the text, all but those that are held
abbrev pub Holds : Option (List ℕ) → Option (List ℕ) → ℕ → List ℕ → List ℕ → Type 0
Holds old now written kept text = (front : List ℕ) × Appends old now front × (written ≡ length front) × (text ≡ front ++ kept)

-- the sink failed after this many bytes of the text, before it had taken all
abbrev pub Broke : Option (List ℕ) → Option (List ℕ) → ℕ → List ℕ → Type 0
Broke old now written text =
    (front : List ℕ) × (rest : List ℕ) × Appends old now front × (written ≡ length front) × (text ≡ front ++ rest) × (0 < length rest)

abbrev pub HoldsOrBroke : {A E : Type 0} → Option (List ℕ) → Option (List ℕ) → Stage → List ℕ → Result A E → Type 0
HoldsOrBroke old now s text (Ok a) = Holds old now s.written (held s) text
HoldsOrBroke old now s text (Err e) = Broke old now s.written text

-- the piece was put after every text that was under way
abbrev pub Puts : {A E : Type 0} → Option (List ℕ) → Stage → Option (List ℕ) → Stage → List ℕ → Result A E → Type 0
Puts was s now t piece result = (old : Option (List ℕ)) (text : List ℕ) → Holds old was s.written (held s) text
    → HoldsOrBroke old now t (text ++ piece) result

-- the sink took all of the text, or where it failed its first bytes, this many, and not all
abbrev pub Writes : Option (List ℕ) → Option (List ℕ) → List ℕ → Result ℕ ℕ → Type 0
Writes old new text (Ok written) = Appends old new text × (written ≡ length text)
Writes old new text (Err written) = Appends old new (take written text) × (written < length text)
