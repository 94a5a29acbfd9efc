-- What is written for one run, and whether the loop stops there.
use Rattle.std.specs.Prelude.{◌≡◌, ◌⊎◌, ℕ, Bool, true, false, if◌then◌else◌, List, [], Option, Some, None}
use Rattle.std.specs.Io.KnownBytes.{Appends}
use Rattle.sf_run.specs.Runs.{RunReport}
pub use Rattle.sf_forms.specs.Written.{TakesPart}
use Rattle.sf_records.specs.declared.turn.Turn.{Turn}
use Rattle.sf_records.specs.declared.turn.Turn.TheVariants.{Goes}
use Rattle.sf_forms.specs.declared.makers.maker.Unwritten.{Unwritten}
use Rattle.sf_forms.specs.declared.makers.maker.Unwritten.TheVariants as unwritten
use Rattle.sf_records.specs.declared.end.ToolEnd.{ToolEnd}
use Rattle.sf_records.specs.declared.end.ToolFault.{ToolFault}
use Rattle.sf_records.specs.declared.end.ToolFault.TheVariants as faults
use Rattle.sf_records.specs.Records.{ended, end_by}
use Rattle.sf_records.specs.Turns.{writes}

-- the fault of the loop where the record of this run was not written in full
abbrev pub fault_by : ℕ → Unwritten → ToolFault
fault_by number unwritten.Unfit = faults.Unfit number
fault_by number unwritten.Write = faults.Write
fault_by number unwritten.Memory = faults.Memory

-- where the loop ends by this fault, the sink has failed
abbrev pub is_write : Option ToolFault → Bool
is_write (Some faults.Write) = true
is_write _ = false

-- the record was to be written, and was not, or not in full
abbrev pub Interrupts : ℕ → List ℕ → Turn → Option (List ℕ) → Option (List ℕ) → ToolEnd → Type 0
Interrupts n text turn old new end =
    (writes turn ≡ true) × ((end ≡ ended n (Some faults.Write)) × TakesPart old new text ⊎ (end ≡ ended n (Some faults.Memory))
    × Appends old new [])

-- the loop stops at the run by its turn, and the record was written where it is due
abbrev pub Concludes : ℕ → List ℕ → Turn → RunReport → Option (List ℕ) → Option (List ℕ) → ToolEnd → Type 0
Concludes n text turn r old new end =
    (turn ≡ Goes → ⊥) × Appends old new (if writes turn then text else []) × (end ≡ end_by turn n r)

-- After n records: the record of the run r with this turn and this line was written and the loop goes on, or its end.
abbrev pub Judges : ℕ → List ℕ → Turn → RunReport → Option (List ℕ) → Option (List ℕ) → Option ToolEnd → Type 0
Judges n text turn r old new None = (turn ≡ Goes) × Appends old new text
Judges n text turn r old new (Some end) = Concludes n text turn r old new end ⊎ Interrupts n text turn old new end

abbrev pub fault_of : Option ToolEnd → Option ToolFault
fault_of None = None
fault_of (Some end) = end.fault
