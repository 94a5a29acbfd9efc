-- What comes of the lines of an input, and how the loop over them ends.
use Rattle.std.specs.Prelude.{◌≡◌, ◌≤◌, ◌<◌, ◌+◌, ◌-◌, ◌^◌, ◌++◌, ◌∷◌, ◌⊎◌, ◌&&◌, not, ℕ, nat_eq, nat_lt, Bool, true, false}
use Rattle.std.specs.Prelude.{if◌then◌else◌, List, [], length, take, drop, Option, Some, None, Ok, Err}
use Rattle.std.specs.List.{AllByRecursion, filter, flat_map, count_by}
use Rattle.std.specs.Io.KnownBytes.{Appends}
use Rattle.sf_run.specs.outcome.Ending.TheVariants as endings
use Rattle.sf_read.specs.source.Ahead.{Ahead, input_of}
use Rattle.sf_read.specs.source.Counts.{counted_on}
use Rattle.sf_read.specs.declared.line.line.LineRead.{LineRead}
use Rattle.sf_read.specs.declared.line.line.LineRead.TheVariants as reads
use Rattle.sf_records.specs.declared.by_lines.end.LineFault.TheVariants.{TooLong}
use Rattle.sf_records.specs.declared.by_lines.end.LinesEnd.{LinesEnd}
use Rattle.sf_records.specs.declared.by_lines.end.LinesFault.{LinesFault}
use Rattle.sf_records.specs.declared.by_lines.end.LinesFault.TheVariants.{Read, Write, Memory, TooMany}
use Rattle.sf_read.specs.line.Cut.{IsLine, lines_by, lines_of}
use Rattle.sf_read.specs.line.Reading.{endless}
use Rattle.sf_records.specs.by_lines.Telling.{Tells}
use Rattle.sf_records.specs.by_lines.Turns.{LineWork, Turn, Comes}

-- ---- what comes of the lines

-- a line that fails stops the loop, unless it is to keep going
abbrev pub goes_on : LineWork → Turn → Bool
goes_on w (Some (Err miss)) = w.options.keep_going
goes_on w _ = true

abbrev pub IfGoing : Bool → Type 0 → List Turn → Type 0
IfGoing true rest turns = rest
IfGoing false rest turns = turns ≡ []

-- what comes of each of the lines after the first n, up to one at which the loop stops
abbrev pub AreTurns : LineWork → ℕ → List (List ℕ) → List Turn → Type 0
AreTurns w n [] turns = turns ≡ []
AreTurns w n (line ∷ lines) [] = ⊥
AreTurns w n (line ∷ lines) (turn ∷ turns) = Comes w (n + 1) line turn × IfGoing (goes_on w turn) (AreTurns w (n + 1) lines turns) turns

-- ---- what is written, reported and counted

abbrev pub text_of : Turn → List ℕ
text_of (Some (Ok text)) = text
text_of _ = []

abbrev pub texts : List Turn → List ℕ
texts turns = flat_map text_of turns

abbrev pub telling_of : LineWork → ℕ → Turn → List ℕ
telling_of w number (Some (Err (line, fault))) = w.telling number line fault
telling_of w number _ = []

-- of the lines after the first n
abbrev pub tellings : LineWork → ℕ → List Turn → List ℕ
tellings w n [] = []
tellings w n (turn ∷ turns) = telling_of w (n + 1) turn ++ tellings w (n + 1) turns

abbrev pub is_written : Turn → Bool
is_written (Some (Ok text)) = true
is_written _ = false

abbrev pub is_failed : Turn → Bool
is_failed (Some (Err miss)) = true
is_failed _ = false

-- ---- how the loop ends

abbrev pub status_by : ℕ → Option LinesFault → ℕ
status_by failed None = if nat_eq failed 0 then 0 else 1
status_by failed (Some TooMany) = 1
status_by failed (Some (Read line)) = 3
status_by failed (Some Write) = 3
status_by failed (Some Memory) = 4

-- the end after these turns
abbrev pub ended : List Turn → Option LinesFault → LinesEnd
ended turns fault = record {
  status = status_by (count_by is_failed turns) fault;
  written = count_by is_written turns;
  failed = count_by is_failed turns;
  fault = fault;
}

-- why the loop ends where no line of this number was read
abbrev pub fault_after : ℕ → LineRead → Option LinesFault
fault_after line reads.Fault = Some (Read line)
fault_after line reads.Endless = Some TooMany
fault_after line reads.NoMemory = Some Memory
fault_after line _ = None

-- the sink has failed
abbrev pub is_write : Option LinesFault → Bool
is_write (Some Write) = true
is_write _ = false

-- the loop stops at none of these
abbrev pub AllGoOn : LineWork → List Turn → Type 0
AllGoOn w turns = AllByRecursion (λ turn. goes_on w turn ≡ true) turns

-- each line has had its turn, up to one at which the loop stops; or it stops at none, and the read failed in the line
-- after those that are ended, of which there are so many
abbrev pub Concludes : LineWork → Bool → ℕ → List Turn → LinesEnd → Type 0
Concludes w true whole turns answer = AllGoOn w turns × (answer ≡ ended turns (Some (Read (whole + 1))))
Concludes w false whole turns answer = answer ≡ ended turns None

-- the text of the first of these was begun, and is not written in full
abbrev pub IsBegun : List ℕ → List Turn → Type 0
IsBegun part later = (missing : ℕ) × (rest : List ℕ) × (more : List Turn) × (later ≡ Some (Ok (part ++ missing ∷ rest)) ∷ more)

-- the most lines that a loop reads
abbrev pub most_lines : ℕ
most_lines = 2 ^ 64 - 1

-- so many bytes are those of so many lines, with their newlines
pub record AreLines (t : List ℕ) (consumed lines : ℕ) : Type 0 where
  pub count : length (lines_of (take consumed t)) ≡ lines
  pub cut : lines_of t ≡ lines_of (take consumed t) ++ lines_of (drop consumed t)

-- so many bytes are those of so many lines, and of the next one this part, without its newline
pub record AreLinesAndPart (t : List ℕ) (consumed lines : ℕ) (part : List ℕ) : Type 0 where
  pub whole : ℕ
  pub are : AreLines t whole lines
  pub is_line : IsLine part
  pub bytes : take consumed t ≡ take whole t ++ part

-- a line that is reported as one above the limit
abbrev pub is_long : Turn → Bool
is_long (Some (Err (line, TooLong))) = true
is_long _ = false

-- the loop stops at the last of these, which is above the limit
abbrev pub ends_long : LineWork → List Turn → Bool
ends_long w [] = false
ends_long w (turn ∷ []) = is_long turn && not (goes_on w turn)
ends_long w (turn ∷ next ∷ turns) = ends_long w (next ∷ turns)

-- so many bytes are those of so many lines; or of these but the last, and of that one more than the limit
abbrev pub AreTakenBy : Bool → ℕ → List ℕ → ℕ → ℕ → Type 0
AreTakenBy true limit t consumed lines = (part : List ℕ) × AreLinesAndPart t consumed (lines - 1) part × (limit < length part)
AreTakenBy false limit t consumed lines = AreLines t consumed lines

-- The bytes of the lines that had these turns. Where the loop stops at the last one for being above the limit, they end within it, after
-- more of its bytes than the limit.
abbrev pub AreTaken : LineWork → List ℕ → ℕ → List Turn → Type 0
AreTaken w t consumed turns = AreTakenBy (ends_long w turns) w.options.limit t consumed (length turns)

-- The bytes up to where memory was refused: before the first line; or after those that are passed over, once the line
-- after so many was read, or while it was.
abbrev pub IsRefusedAt : LineWork → List ℕ → ℕ → ℕ → Type 0
IsRefusedAt w t consumed lines =
    (lines ≡ 0) × (consumed ≡ 0)
    ⊎ (w.options.skip ≤ lines) × (AreLines t consumed (lines + 1) ⊎ ((part : List ℕ) × AreLinesAndPart t consumed lines part))

-- the bytes of the most lines; or of these but the last, and too many of that one
abbrev pub AreTooMany : List ℕ → ℕ → ℕ → Type 0
AreTooMany t consumed lines = (lines ≡ most_lines) × AreLines t consumed lines
    ⊎ (0 < lines) × ((part : List ℕ) × AreLinesAndPart t consumed (lines - 1) part × (endless ≤ length part))

-- The loop was ended before, after these turns, where so many bytes of t were consumed: the sink failed within the text
-- of the next line, which was taken whole; memory was refused; or there are too many lines, or too many bytes of one.
abbrev pub IsCutShort : LineWork → List Turn → List ℕ → List Turn → List ℕ → ℕ → LinesEnd → Type 0
IsCutShort w done part later t consumed answer =
    (answer ≡ ended done (Some Write)) × IsBegun part later × AreLines t consumed (length done + 1)
    ⊎ (answer ≡ ended done (Some Memory)) × (part ≡ []) × IsRefusedAt w t consumed (length done)
    ⊎ (answer ≡ ended done (Some TooMany)) × (part ≡ []) × AreTooMany t consumed (length done)

-- ---- the loop over a source

-- The lines of a text after which a read failed: those that are ended, and what is after these where it has more bytes than the limit,
-- since a line has its turn once it is above that.
abbrev pub lines_met : ℕ → List ℕ → List (List ℕ)
lines_met limit t = lines_by endings.Fault t
    ++ filter (λ line. nat_lt limit (length line)) (drop (length (lines_by endings.Fault t)) (lines_of t))

-- the lines that the loop had: those of t; or, where the source failed, those of the bytes that were consumed
abbrev pub lines_for : ℕ → Bool → ℕ → List ℕ → List (List ℕ)
lines_for limit failed consumed t = if failed then lines_met limit (take consumed t) else lines_of t

-- What the loop over the input t wrote, reported and answered. now: what is held and to come afterwards. The sink held
-- the bytes `before`, and then `after`, where it makes them known; `failures` and `failures'` are the counts of the
-- source's failures. `told` and `told'` are what was reported before and afterwards, and `silent`, whether some of it
-- may be missing.
pub record Loops {S : Type 0} (w : LineWork) (to_come : S → Option (List ℕ)) (t : List ℕ) (now : Ahead S) (failures failures' : ℕ)
    (before after : Option (List ℕ)) (silent : Bool) (told told' : Option (List ℕ)) (answer : LinesEnd) : Type 0 where
  -- whether the source failed
  pub failed : Bool
  pub failures_are : failures' ≡ (if failed then counted_on failures else failures)
  pub nothing_held : failed ≡ true → now.held ≡ []
  -- the bytes that were consumed; what is after them is held or to come
  pub consumed : ℕ
  pub rest : input_of to_come now ≡ Some (drop consumed t)
  -- what comes of the input's lines, and of how many of them it did
  pub turns : List Turn
  pub are : AreTurns w 0 (lines_for w.options.limit failed consumed t) turns
  pub done : List Turn
  pub later : List Turn
  pub parts : turns ≡ done ++ later
  -- what is written of these, and of the next, where the sink failed within it
  pub part : List ℕ
  pub appends : Appends before after (texts done ++ part)
  pub tells : silent ≡ false → Appends told told' (tellings w 0 done)
  pub ends : (later ≡ []) × (part ≡ []) × Concludes w failed (length (lines_by endings.Fault (take consumed t))) done answer
      × (failed ≡ false → AreTaken w t consumed done)
      ⊎ (failed ≡ false) × AllGoOn w done × IsCutShort w done part later t consumed answer

-- the same, with what was reported of these lines: all of it, or a part where the teller failed within it. `dumb`:
-- whether it had failed before.
abbrev pub TellsLines : {S : Type 0} → LineWork → (S → Option (List ℕ)) → List ℕ → Ahead S → ℕ → ℕ → Option (List ℕ) → Option (List ℕ)
    → Bool → Bool → Option (List ℕ) → Option (List ℕ) → LinesEnd → Type 0
TellsLines w to_come t now failures failures' before after dumb silent told told' answer =
    (all : Loops w to_come t now failures failures' before after silent told told' answer)
    × Tells dumb silent told told' (tellings w 0 all.done)
