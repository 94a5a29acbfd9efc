-- How a command ends: its exit status, or the line of a fault on the error output, and what is said after that.
use Rattle.std.specs.Prelude.{◌≡◌, ◌⊎◌, ◌++◌, ℕ, Bool, List, [], ◌∷◌, true, false, Option, Some, Ok, Err}
use Rattle.std.specs.declared.io.Error.{Error}
use Rattle.sf_words.specs.declared.order.Order.{Order}
use Rattle.sf_messages.specs.declared.fault.CommandFault.{CommandFault}
use Rattle.sf_messages.specs.declared.fault.CommandFault.TheVariants.{NameTwice}
use Rattle.sf_forms.specs.Columns.{name_at}
use Rattle.sf_command.specs.jobs.Answers.{Answer}
use Rattle.sf_command.specs.jobs.Heads.{names_text, split}
use Rattle.sf_command.specs.console.Fronts.{file_name, in_front}
use Rattle.sf_command.specs.reasons.Faults.{IsWithReason, file_of, is_unsaid, reason_of}
use Rattle.sf_command.specs.console.Saying.{Says}
use Rattle.sf_messages.specs.Texts.{error_line, name_twice_line, status_of}

-- the notes are said, if there are any
abbrev pub SaysNotes : {K E : Type 0} → (K → K → Type 0) → (E → Option (List ℕ)) → (E → ℕ) → List ℕ → K → K → E → E → Type 0
SaysNotes hands said unsaid [] out out' err err' = (out' ≡ out) × (err' ≡ err)
SaysNotes hands said unsaid (b ∷ notes) out out' err err' = Says hands said unsaid (b ∷ notes) out out' err err'

-- the notes alone are said where there is an exit status; else the line of the fault, and the notes after it; ended: the answer
abbrev pub Ends : {K E : Type 0} → (K → K → Type 0) → (E → Option (List ℕ)) → (E → ℕ) → List ℕ → Answer → K → K → E → E → Answer → Type 0
Ends hands said unsaid notes (Ok n) out out' err err' ended = SaysNotes hands said unsaid notes out out' err err' × (ended ≡ Ok n)
Ends hands said unsaid notes (Err fault) out out' err err' ended =
    Says hands said unsaid (error_line fault ++ notes) out out' err err' × (ended ≡ Err fault)

-- the exit status of an answer
abbrev pub exit_of : Answer → ℕ
exit_of (Ok n) = n
exit_of (Err fault) = status_of fault

-- a name stands twice, of those in the text: the line that says the name
abbrev pub IsTwiceLine : Option (List ℕ) → CommandFault → List ℕ → Type 0
IsTwiceLine names fault line =
    (text : List ℕ) × (names ≡ Some text) × ((number : ℕ) × (fault ≡ NameTwice number)
    × (line ≡ name_twice_line (name_at (split text) number)))

-- the line of a fault: where memory for one that says a name was refused, its number is said
abbrev pub IsLineOf : Option (List ℕ) → CommandFault → List ℕ → Type 0
IsLineOf names fault line = (line ≡ error_line fault) ⊎ IsTwiceLine names fault line

-- the line of the fault is said, with the name of the file in front where the fault is one of the input, and the notes after it
abbrev pub SaysFault : {K E : Type 0} → (K → K → Type 0) → (E → Option (List ℕ)) → (E → ℕ) → Option (List ℕ) → Option (List ℕ) → List ℕ
    → CommandFault → K → K → E → E → Type 0
SaysFault hands said unsaid names file notes fault out out' err err' =
    (line : List ℕ) × IsLineOf names fault line × Says hands said unsaid (in_front (file_of fault file) line ++ notes) out out' err err'

-- the end of an order: the same, but for the line of a name, and the name of a file
abbrev pub EndsOrder : {K E : Type 0} → (K → K → Type 0) → (E → Option (List ℕ)) → (E → ℕ) → Order → List ℕ → Answer → K → K
    → E → E → Answer → Type 0
EndsOrder hands said unsaid order notes (Ok n) out out' err err' ended = SaysNotes hands said unsaid notes out out' err err' ×
    (ended ≡ Ok n)
EndsOrder hands said unsaid order notes (Err fault) out out' err err' ended =
    SaysFault hands said unsaid (names_text order) (file_name order) notes fault out out' err err' × (ended ≡ Err fault)

-- the end of an order with a fault, by why its input and why its output failed last: why it came is said after the notes, where more
-- is said than the line; nothing is said on a terminal where nobody reads the output any more, nor of a record that took nothing of an
-- input that can't be opened
abbrev pub EndsFailed : {K E : Type 0} → (K → K → Type 0) → (E → Option (List ℕ)) → (E → ℕ) → Bool → Bool → Option Error → Option Error
    → Order → List ℕ → CommandFault → K → K → E → E → Answer → Type 0
EndsFailed hands said unsaid watched explain unread unwritten order notes fault out out' err err' ended =
    (is_unsaid watched unread unwritten fault ≡ true) × (out' ≡ out) × (err' ≡ err) × (ended ≡ Err fault)
    ⊎ (is_unsaid watched unread unwritten fault ≡ false) × ((all : List ℕ)
    × IsWithReason explain (reason_of unread unwritten fault) notes all
    × EndsOrder hands said unsaid order all (Err fault) out out' err err' ended)

abbrev pub EndsKnown : {K E : Type 0} → (K → K → Type 0) → (E → Option (List ℕ)) → (E → ℕ) → Bool → Bool → Option Error → Option Error
    → Order → List ℕ → Answer → K → K → E → E → Answer → Type 0
EndsKnown hands said unsaid watched explain unread unwritten order notes (Ok n) out out' err err' ended =
    EndsOrder hands said unsaid order notes (Ok n) out out' err err' ended
EndsKnown hands said unsaid watched explain unread unwritten order notes (Err fault) out out' err err' ended =
    EndsFailed hands said unsaid watched explain unread unwritten order notes fault out out' err err' ended
