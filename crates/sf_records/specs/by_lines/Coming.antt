-- What comes of the next line of an input, and how the loop goes on.
use Rattle.std.specs.Prelude.{◌≡◌, ◌≤◌, ◌<◌, ◌+◌, ◌⊎◌, ℕ, Bool, true, false, if◌then◌else◌, List, [], length, take, Option, Some, None}
use Rattle.std.specs.Prelude.{Result, Ok, Err}
use Rattle.std.specs.Io.KnownBytes.{Appends, IsAtEnd}
use Rattle.sf_read.specs.source.Ahead.{Ahead, input_of}
use Rattle.sf_records.specs.declared.by_lines.end.Counts.{Counts}
use Rattle.sf_records.specs.declared.by_lines.end.LinesFault.{LinesFault}
use Rattle.sf_records.specs.declared.by_lines.end.LinesFault.TheVariants as faults
use Rattle.sf_records.specs.declared.by_lines.judge.Judged.{Judged}
use Rattle.sf_records.specs.declared.by_lines.judge.Judged.TheVariants.{Skipped, Written, Failed, Cut, Stopped, Unread}
use Rattle.sf_read.specs.declared.line.line.LineRead.{LineRead}
use Rattle.sf_read.specs.declared.line.line.LineRead.TheVariants as reads
use Rattle.sf_forms.specs.Written.{TakesPart}
use Rattle.sf_records.specs.by_lines.Loops.{fault_after, telling_of, text_of}
use Rattle.sf_read.specs.line.Reading.{Reads, ReadsFront, Took, TookPart, endless, is_failed}
use Rattle.sf_records.specs.by_lines.Telling.{Tells}
use Rattle.sf_records.specs.by_lines.Turns.{Comes, LineWork, Miss, Turn}

-- ---- a line

-- the turn is of this kind
abbrev pub IsOf : Judged → Turn → Type 0
IsOf Skipped turn = turn ≡ None
IsOf Written turn = (text : List ℕ) × (turn ≡ Some (Ok text))
IsOf Failed turn = (miss : Miss) × (turn ≡ Some (Err miss))
IsOf _ turn = ⊥

-- after the lines that are passed over, memory was refused, and nothing was written; or the sink failed within the text
-- of the line with this number
abbrev pub StopsAt : LineWork → ℕ → List ℕ → Option (List ℕ) → Option (List ℕ) → LinesFault → Type 0
StopsAt w number line is after fault =
    (fault ≡ faults.Memory) × (w.options.skip < number) × Appends is after []
    ⊎ (fault ≡ faults.Write) × ((text : List ℕ) × Comes w number line (Some (Ok text)) × TakesPart is after text)

-- What came of the line with this number. The sink held the bytes `is`, and then `after`; what was reported before and
-- afterwards, and whether the teller had failed then.
abbrev pub Came : LineWork → ℕ → List ℕ → Option (List ℕ) → Option (List ℕ) → Bool → Bool → Option (List ℕ) → Option (List ℕ) → Judged
    → Type 0
Came w number line is after silent silent' told told' (Stopped fault) = StopsAt w number line is after fault × (silent' ≡ silent)
    × (told' ≡ told)
Came w number line is after silent silent' told told' (Unread why) = ⊥
Came w number line is after silent silent' told told' judged =
    (turn : Turn) × IsOf judged turn × Comes w number line turn × Appends is after (text_of turn)
    × Tells silent silent' told told' (telling_of w number turn)

-- the line was reported as one that fails; or memory for that was refused, and nothing was reported
abbrev pub IsTold : Bool → Bool → Option (List ℕ) → Option (List ℕ) → List ℕ → Judged → Type 0
IsTold silent silent' told told' text Failed = Tells silent silent' told told' text
IsTold silent silent' told told' text (Stopped fault) = (fault ≡ faults.Memory) × (silent' ≡ silent) × (told' ≡ told)
IsTold silent silent' told told' text _ = ⊥

-- ---- the next line of an input

-- no line was read, be it one to be passed over, which takes no memory, or one whose rest is left once it is above the limit, which is
-- known of each that is endless
pub record IsUnread {S : Type 0} (to_come : S → Option (List ℕ)) (old new : Ahead S) (skip limit number : ℕ) (read : LineRead) : Type 0
  where
    pub line : List ℕ
    pub told : (number ≤ skip) × Reads to_come old new 0 line read ⊎ (skip < number) × ReadsFront to_come old new limit line read
    pub no_line : read ≡ reads.Line → ⊥
    pub no_long : read ≡ reads.TooLong → ⊥
    pub unskipped : read ≡ reads.NoMemory → skip < number
    pub skipped : read ≡ reads.Endless → number ≤ skip

-- a line was passed over, or none was read, and memory for none was refused
abbrev pub Passes : {S : Type 0} → (S → Option (List ℕ)) → Ahead S → Ahead S → Judged → Type 0
Passes to_come old new Skipped = (line : List ℕ) × Took to_come old new line
Passes to_come old new (Unread why) = (part : List ℕ) × Reads to_come old new 0 part why × (why ≡ reads.Line → ⊥)
    × (why ≡ reads.TooLong → ⊥) × (why ≡ reads.NoMemory → ⊥)
Passes to_come old new _ = ⊥

-- the rest of a line was taken, or there is none; or it was not to be taken; or the source failed in it, or it is endless
abbrev pub PassesRest : {S : Type 0} → (S → Option (List ℕ)) → Ahead S → Ahead S → Bool → Judged → Type 0
PassesRest to_come old new keep_going Failed = (keep_going ≡ true)
    × (((line : List ℕ) × Took to_come old new line) ⊎ TookPart to_come old new [] × (new.at_end ≡ true) × IsAtEnd (input_of to_come new))
PassesRest to_come old new keep_going (Cut why) = (keep_going ≡ false) × (why ≡ reads.TooLong) × (new ≡ old)
    ⊎ (keep_going ≡ true) × ((line : List ℕ) × Reads to_come old new 0 line why × (why ≡ reads.Line → ⊥) × (why ≡ reads.TooLong → ⊥)
    × (why ≡ reads.End → ⊥) × (why ≡ reads.NoMemory → ⊥))
PassesRest to_come old new keep_going _ = ⊥

-- The loop stops within a line above the limit, of which this part was taken: it isn't to keep going; or the source failed in the rest, or
-- too many bytes of the line came.
abbrev pub StopsWithin : {S : Type 0} → Ahead S → Bool → List ℕ → LineRead → Type 0
StopsWithin new keep_going part reads.TooLong = keep_going ≡ false
StopsWithin new keep_going part reads.Fault = (keep_going ≡ true) × (new.at_end ≡ false) × (new.held ≡ [])
StopsWithin new keep_going part reads.Endless = (keep_going ≡ true) × (endless ≤ length part)
StopsWithin new keep_going part _ = ⊥

-- The line with this number was taken from the input, and this came of it; or so did a part of one that is above the limit; or no line
-- was read. One above the limit is taken whole only where the loop keeps going.
abbrev pub Turns : {S : Type 0} → (S → Option (List ℕ)) → Ahead S → Ahead S → LineWork → ℕ → Option (List ℕ) → Option (List ℕ) → Bool
    → Bool → Option (List ℕ) → Option (List ℕ) → Judged → Type 0
Turns to_come old new w number is after silent silent' told told' (Unread why) = IsUnread to_come old new w.options.skip
    w.options.limit number why × (after ≡ is) × (silent' ≡ silent) × (told' ≡ told)
Turns to_come old new w number is after silent silent' told told' (Cut why) = (part : List ℕ) × TookPart to_come old new part
    × (old.at_end ≡ false) × (w.options.limit < length part) × StopsWithin new w.options.keep_going part why
    × Came w number part is after silent silent' told told' Failed
Turns to_come old new w number is after silent silent' told told' Failed = (line : List ℕ) × Took to_come old new line
    × Came w number line is after silent silent' told told' Failed × (w.options.keep_going ≡ false → length line ≤ w.options.limit)
Turns to_come old new w number is after silent silent' told told' judged = (line : List ℕ) × Took to_come old new line
    × Came w number line is after silent silent' told told' judged

-- the same of a line above the limit, of which so many bytes or more were taken before, and these first ones gathered; it is reported
abbrev pub TurnsLong : {S : Type 0} → (S → Option (List ℕ)) → Ahead S → Ahead S → LineWork → ℕ → List ℕ → Option (List ℕ)
    → Option (List ℕ) → Bool → Bool → Option (List ℕ) → Option (List ℕ) → Judged → Type 0
TurnsLong {S} to_come mid new w number line is after silent silent' told told' judged =
    (old : Ahead S) (part : List ℕ) → TookPart to_come old mid part → old.at_end ≡ false → w.options.limit < length part
    → line ≡ take w.options.limit part → Turns to_come old new w number is after silent silent' told told' judged

abbrev pub is_read_fault : Judged → Bool
is_read_fault (Unread read) = is_failed read
is_read_fault (Cut read) = is_failed read
is_read_fault _ = false

-- ---- the loop

-- the counts with this one
abbrev pub counted : Judged → Counts → Counts
counted Written n = record { written = n.written + 1; failed = n.failed }
counted Failed n = record { written = n.written; failed = n.failed + 1 }
counted (Cut read) n = record { written = n.written; failed = n.failed + 1 }
counted _ n = n

-- whether the loop goes on; else with which fault it ends
abbrev pub next_by : Bool → ℕ → Judged → Result (Unit {0}) (Option LinesFault)
next_by keep_going number Skipped = Ok tt
next_by keep_going number Written = Ok tt
next_by keep_going number Failed = if keep_going then Ok tt else Err None
next_by keep_going number (Cut read) = Err (fault_after number read)
next_by keep_going number (Stopped fault) = Err (Some fault)
next_by keep_going number (Unread read) = Err (fault_after number read)
