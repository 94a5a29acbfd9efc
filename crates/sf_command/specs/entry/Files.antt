-- The files that words name, read one after the other.
use Rattle.std.specs.Prelude.{◌≡◌, ◌⊎◌, ◌+◌, ◌++◌, ℕ, zero, suc, Bool, true, false, List, [], length, max}
use Rattle.std.specs.Prelude.{Option, Some, Result, Ok}
use Rattle.std.specs.Prelude.{Err, codes}
use Rattle.std.specs.Option.{option_map_or}
use Rattle.std.specs.declared.io.Error.{Error}
use Rattle.sf_messages.specs.Texts.{status_of}
use Rattle.sf_words.specs.declared.order.Order.{Order}
use Rattle.sf_words.specs.declared.order.WordsFault.{WordsFault}
use Rattle.sf_command.specs.jobs.Answers.{Answer}
use Rattle.sf_command.specs.entry.Exits.{Declines, DoesOn, is_explained}
use Rattle.sf_command.specs.entry.Hints.{hint_of}
use Rattle.sf_command.specs.console.Ends.{exit_of}
use Rattle.sf_command.specs.console.Fronts.{file_name, in_front}
use Rattle.sf_command.specs.reasons.Faults.{IsWithReason, is_of_input, is_read_fault}
use Rattle.sf_command.specs.console.Saying.{Says}
use Rattle.sf_command.specs.declared.entry.files.Turn.{Turn}

-- the scan goes on after a line that failed
abbrev pub keeps_going : Order → Bool
keeps_going order = option_map_or (λ options. options.keep_going) order.lines false

-- What the answer for one file makes of the whole: its exit status, and whether the next file is read. After a file that could not be
-- read to its end it is; after one with a record or a line that failed only where the scan goes on after that.
abbrev pub turn_of : Bool → Answer → Turn
turn_of keep_going (Ok zero) = record { status = 0; goes_on = true }
turn_of keep_going (Ok (suc n)) = record { status = suc n; goes_on = keep_going }
turn_of keep_going (Err fault) = record { status = status_of fault; goes_on = is_read_fault fault }

-- the line of a file that can't be opened, without its name
abbrev pub unopened_line : List ℕ
unopened_line = codes "sf: can't be opened\n"

-- what the run came to is no more than that the file has no bytes
abbrev pub is_unopened : Answer → Bool
is_unopened (Ok status) = true
is_unopened (Err fault) = is_of_input fault

-- the one, or the other
abbrev pub Where : Bool → Type 0 → Type 0 → Type 0
Where true A B = A
Where false A B = B

-- What follows the run over a file. One that can't be opened has no bytes. So its run came to its end, or stopped at a record that took
-- nothing, unless the words are refused or the output fails: then it is reported, with the notes after that, and the next file is read.
abbrev pub EndsFile : {K E : Type 0} → (K → K → Type 0) → (E → Option (List ℕ)) → (E → ℕ) → Bool → Bool → List ℕ → List ℕ → Answer → K →
    K → E → E
    → Turn → Type 0
EndsFile hands said unsaid true keep_going name notes ended out out' err err' turn =
    (out' ≡ out) × (err' ≡ err) × (turn ≡ turn_of keep_going ended)
EndsFile hands said unsaid false keep_going name notes ended out out' err err' turn =
    Where (is_unopened ended)
    (Says hands said unsaid (in_front (Some name) unopened_line ++ notes) out out' err err' × (turn ≡ record {
      status = 3;
      goes_on = true;
    }))
    ((out' ≡ out) × (err' ≡ err) × (turn ≡ record { status = exit_of ended; goes_on = false }))

-- `opens` says what comes of opening a file by its name: the bytes of a source, and whether it could be opened. why_unread,
-- why_unwritten: why the last of the reads and of the writes failed that did, or why a file couldn't be opened, where that is known.
module _ {S K E F : Type 0} (opens : F → F → List ℕ → S → Bool → Type 0) (contents : K → Option (List ℕ)) (write_faults : K → ℕ)
    (hands : K → K → Type 0) (said : E → Option (List ℕ)) (unsaid : E → ℕ) (to_come : S → Option (List ℕ)) (read_faults : S → ℕ)
    (why_unread : S → Option Error) (why_unwritten : K → Option Error) (watched : Bool) where
  -- the run over the file that the order names; rest: what it leaves of the file
  pub record RunsFile (order : Order) (files files' : F) (out out' : K) (err err' : E) (turn : Turn) : Type 0 where
    pub name : List ℕ
    pub is_name : file_name order ≡ Some name
    pub source : S
    pub is_open : Bool
    pub opened : opens files files' name source is_open
    pub empty : is_open ≡ false → to_come source ≡ Some []
    pub notes : List ℕ
    pub why : IsWithReason (is_explained watched order.notes) (why_unread source) [] notes
    pub all : List ℕ
    pub hinted : (all ≡ notes ++ hint_of (is_explained watched order.notes) order name) ⊎ (all ≡ notes)
    pub mid : K
    pub between : E
    pub ended : Answer
    pub rest : S
    pub runs : DoesOn contents write_faults hands said unsaid to_come read_faults why_unread why_unwritten watched (Ok order) source rest
        out mid err between ended
    pub ends : EndsFile hands said unsaid is_open (keeps_going order) name all ended mid out' between err' turn

  -- The files from this place on, of which so many are left: each is read where those before go on. The exit status is the greatest
  -- of all; worst: the greatest of those before.
  abbrev pub RunsFiles : ℕ → Order → ℕ → ℕ → F → F → K → K → E → E → ℕ → Type 0
  RunsFiles zero order place worst files files' out out' err err' status =
      (files' ≡ files) × (out' ≡ out) × (err' ≡ err) × (status ≡ worst)
  RunsFiles (suc left) order place worst files files' out out' err err' status =
      (turn : Turn) × ((after : F) × ((mid : K) × ((between : E)
      × RunsFile (record order { file = Some place }) files after out mid err between turn
      × Where turn.goes_on (RunsFiles left order (place + 1) (max worst turn.status) after files' mid out' between err' status)
      ((files' ≡ after) × (out' ≡ mid) × (err' ≡ between) × (status ≡ max worst turn.status)))))

  -- the inputs of an order: the source alone where there are no files; else it isn't read
  abbrev pub RunsInputs : ℕ → Order → S → S → F → F → K → K → E → E → ℕ → Type 0
  RunsInputs zero order from from' files files' out out' err err' status =
      (ended : Answer) × DoesOn contents write_faults hands said unsaid to_come read_faults why_unread why_unwritten watched (Ok order)
      from from' out out' err err' ended
      × (files' ≡ files) × (status ≡ exit_of ended)
  RunsInputs (suc n) order from from' files files' out out' err err' status =
      RunsFiles (suc n) order 0 0 files files' out out' err err' status × (from' ≡ from)

  -- what was read of the words is done: an order on its inputs, or nothing is read
  abbrev pub RunsAsked : Result Order WordsFault → S → S → F → F → K → K → E → E → ℕ → Type 0
  RunsAsked (Ok order) from from' files files' out out' err err' status =
      RunsInputs (length order.files.items) order from from' files files' out out' err err' status
  RunsAsked (Err fault) from from' files files' out out' err err' status =
      (ended : Answer) × Declines contents write_faults hands said unsaid fault out out' err err' ended
      × (from' ≡ from) × (files' ≡ files) × (status ≡ exit_of ended)
