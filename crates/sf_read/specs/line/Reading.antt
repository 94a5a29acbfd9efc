-- What the reading of a line takes from an input.
use Rattle.std.specs.Prelude.{◌≡◌, ◌≤◌, ◌<◌, ◌^◌, ◌⊎◌, ◌+◌, ℕ, List, [], ◌∷◌, ◌++◌, length, take, drop, Bool, true, false, Option, Some}
use Rattle.std.specs.Io.KnownBytes.{Consumes, IsAtEnd}
use Rattle.sf_read.specs.source.Ahead.{Ahead, input_of}
use Rattle.sf_read.specs.Reads.{ReadsWhile}
use Rattle.sf_read.specs.declared.line.line.LineRead.{LineRead}
use Rattle.sf_read.specs.declared.line.line.LineRead.TheVariants.{Line, TooLong, End, Fault, Endless, NoMemory}
use Rattle.sf_read.specs.line.Cut.{IsLine}

-- the input lost these bytes
abbrev pub Loses : {S : Type 0} → (S → Option (List ℕ)) → Ahead S → Ahead S → List ℕ → Type 0
Loses to_come old new bytes = Consumes (input_of to_come old) (input_of to_come new) bytes

-- the input, which had not reported its end, lost its first line: with its newline, or, as the last one, without
pub record Took {S : Type 0} (to_come : S → Option (List ℕ)) (old new : Ahead S) (line : List ℕ) : Type 0 where
  pub is_line : IsLine line
  pub before : old.at_end ≡ false
  pub bytes : Loses to_come old new (line ++ 10 ∷ [])
      ⊎ Loses to_come old new line × (0 < length line) × (new.at_end ≡ true) × IsAtEnd (input_of to_come new)

-- the input lost bytes of its first line alone
pub record TookPart {S : Type 0} (to_come : S → Option (List ℕ)) (old new : Ahead S) (part : List ℕ) : Type 0 where
  pub is_line : IsLine part
  pub bytes : Loses to_come old new part

-- bytes that are held begin with a line of so many, and its newline
pub record IsHeld (held : List ℕ) (len : ℕ) : Type 0 where
  pub within : len < length held
  pub is_line : IsLine (take len held)
  pub ended : held ≡ take len held ++ 10 ∷ drop (len + 1) held

-- the first line of the input has more bytes than there is room for, and so has the limit
pub record Outgrows {S : Type 0} (to_come : S → Option (List ℕ)) (old : Ahead S) (limit room : ℕ) : Type 0 where
  pub front : List ℕ
  pub is_line : IsLine front
  pub begins : (t : List ℕ) → input_of to_come old ≡ Some t → take (length front) t ≡ front
  pub longer : room < length front
  pub within : room < limit

-- the most bytes of a line that is counted
abbrev pub endless : ℕ
endless = 2 ^ 63

-- What a reading's answer means, and what it gathered: a line, or the first bytes of one that is longer than the limit.
abbrev pub Reads : {S : Type 0} → (S → Option (List ℕ)) → Ahead S → Ahead S → ℕ → List ℕ → LineRead → Type 0
Reads to_come old new limit line Line = Took to_come old new line × (length line ≤ limit)
Reads to_come old new limit line TooLong = (long : List ℕ) × Took to_come old new long × (limit < length long) × (line ≡ take limit long)
Reads to_come old new limit line End = TookPart to_come old new [] × (new.at_end ≡ true) × IsAtEnd (input_of to_come new)
Reads to_come old new limit line Fault = (part : List ℕ) × TookPart to_come old new part × (old.at_end ≡ false) × (new.at_end ≡ false)
    × (new.held ≡ [])
Reads to_come old new limit line Endless = (part : List ℕ) × TookPart to_come old new part × (endless ≤ length part)
Reads to_come old new limit line NoMemory = (part : List ℕ) × TookPart to_come old new part

-- The same of a reading that leaves a line above the limit once more bytes of it than the limit were met: what stands after these is held
-- or to come.
abbrev pub ReadsFront : {S : Type 0} → (S → Option (List ℕ)) → Ahead S → Ahead S → ℕ → List ℕ → LineRead → Type 0
ReadsFront to_come old new limit line TooLong = (front : List ℕ) × TookPart to_come old new front × (old.at_end ≡ false)
    × (limit < length front) × (line ≡ take limit front)
ReadsFront to_come old new limit line Fault = (part : List ℕ) × TookPart to_come old new part × (old.at_end ≡ false) × (new.at_end ≡ false)
    × (new.held ≡ []) × (length part ≤ limit)
ReadsFront to_come old new limit line Endless = (part : List ℕ) × TookPart to_come old new part × (endless ≤ length part)
    × (length part ≤ limit)
ReadsFront to_come old new limit line read = Reads to_come old new limit line read

abbrev pub is_failed : LineRead → Bool
is_failed Fault = true
is_failed _ = false

-- What a reading used of an input: bytes of its first line, and the newline where that was met. Each read was asked for where all that was
-- held and read before it was used, and the reading waited for more after it.
pub record UsesBy {S : Type 0} (Waits : List ℕ → Type 0) (to_come : S → Option (List ℕ)) (reads : S → ℕ) (N : ℕ) (old new : Ahead S)
    (limit : ℕ) (line : List ℕ) (read : LineRead) : Type 0 where
  pub seen : List ℕ
  pub ended : List ℕ
  pub is_line : IsLine seen
  pub is_end : (ended ≡ []) ⊎ (ended ≡ 10 ∷ [])
  pub reads_are : ReadsWhile to_come reads N Waits old (seen ++ ended) new
  -- what was gathered of it
  pub front : (read ≡ NoMemory → ⊥) → line ≡ take limit seen

-- it waits for more where no newline was met
abbrev pub UsesLine : {S : Type 0} → (S → Option (List ℕ)) → (S → ℕ) → ℕ → Ahead S → Ahead S → ℕ → List ℕ → LineRead → Type 0
UsesLine to_come reads N old new limit line read = UsesBy IsLine to_come reads N old new limit line read

-- these bytes have no newline, and are no more than the limit
abbrev pub IsWithin : ℕ → List ℕ → Type 0
IsWithin limit bytes = IsLine bytes × (length bytes ≤ limit)

-- it waits for more where no newline was met, and no more bytes than the limit
abbrev pub UsesFront : {S : Type 0} → (S → Option (List ℕ)) → (S → ℕ) → ℕ → Ahead S → Ahead S → ℕ → List ℕ → LineRead → Type 0
UsesFront to_come reads N old new limit line read = UsesBy (IsWithin limit) to_come reads N old new limit line read

-- where a reading waits for more: one that reads a line above the limit whole, or one that leaves it
abbrev pub waits_by : Bool → ℕ → List ℕ → Type 0
waits_by true limit = IsLine
waits_by false limit = IsWithin limit
