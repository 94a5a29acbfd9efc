-- What a sink was handed of a record.
use Rattle.std.specs.Prelude.{◌≡◌, ◌++◌, ℕ, Bool, true, false, List, [], ◌∷◌, Option, Result, Ok, Err}
use Rattle.std.specs.Io.KnownBytes.{Appends}
use Rattle.sf_forms.specs.declared.form_writer.RecordFault.{RecordFault}
use Rattle.sf_forms.specs.declared.form_writer.RecordFault.TheVariants as unwritten_record

-- a sink that held the bytes `old` took a part of the text, and some of it is missing
abbrev pub TakesPart : Option (List ℕ) → Option (List ℕ) → List ℕ → Type 0
TakesPart old new text = (part : List ℕ) × (missing : ℕ) × (rest : List ℕ) × (text ≡ part ++ missing ∷ rest) × Appends old new part

-- a record was written; or the sink failed within it; or memory was refused, and nothing was written
abbrev pub WritesText : List ℕ → Option (List ℕ) → Option (List ℕ) → Result (Unit {0}) RecordFault → Type 0
WritesText text old new (Ok _) = Appends old new text
WritesText text old new (Err unwritten_record.Write) = TakesPart old new text
WritesText text old new (Err unwritten_record.Memory) = Appends old new []

abbrev pub is_sink_fault : Result (Unit {0}) RecordFault → Bool
is_sink_fault (Err unwritten_record.Write) = true
is_sink_fault _ = false
