-- Why a fault of a command came, and what is said of that.
use Rattle.std.specs.Prelude.{◌≡◌, ◌⊎◌, ◌++◌, ◌&&◌, ◌||◌, if◌then◌else◌, ℕ, Bool, true, false, List, Option, Some, None, is_some}
use Rattle.std.specs.IoError.{error_kind}
use Rattle.std.specs.declared.io.Error.{Error}
use Rattle.std.specs.declared.io.ErrorKind.{ErrorKind}
use Rattle.std.specs.declared.io.ErrorKind.TheVariants.{BrokenPipe}
use Rattle.sf_arguments.specs.declared.argument_fault.ArgumentFault.TheVariants as values
use Rattle.sf_records.specs.declared.by_lines.end.LinesFault.TheVariants as lines
use Rattle.sf_messages.specs.declared.fault.CommandFault.{CommandFault}
use Rattle.sf_messages.specs.declared.fault.CommandFault.TheVariants.{Lines, Record, Values, Write}
use Rattle.sf_command.specs.reasons.Reasons.{IsReasonNote}
use Rattle.sf_records.specs.declared.end.ToolFault.TheVariants as records

-- the input could not be read to its end
abbrev pub is_read_fault : CommandFault → Bool
is_read_fault (Record (records.Read number)) = true
is_read_fault (Lines (lines.Read line)) = true
is_read_fault _ = false

-- the output could not be written
abbrev pub is_write_fault : CommandFault → Bool
is_write_fault (Values values.Write) = true
is_write_fault (Record records.Write) = true
is_write_fault (Lines lines.Write) = true
is_write_fault Write = true
is_write_fault _ = false

-- why a fault came, by why the input and why the output failed last
abbrev pub reason_of : Option Error → Option Error → CommandFault → Option Error
reason_of unread unwritten fault =
    if is_read_fault fault then unread else (if is_write_fault fault then unwritten else None)

-- the fault is one of the input, and not of the output or of memory
abbrev pub is_of_input : CommandFault → Bool
is_of_input (Record records.Write) = false
is_of_input (Record records.Memory) = false
is_of_input (Record fault) = true
is_of_input (Lines lines.Write) = false
is_of_input (Lines lines.Memory) = false
is_of_input (Lines fault) = true
is_of_input _ = false

-- the file that is named with a fault
abbrev pub file_of : CommandFault → Option (List ℕ) → Option (List ℕ)
file_of fault file = if is_of_input fault then file else None

-- nobody reads the output any more (POSIX write(), EPIPE)
abbrev pub is_pipe_kind : ErrorKind → Bool
is_pipe_kind BrokenPipe = true
is_pipe_kind _ = false

abbrev pub is_broken_pipe : Option Error → Bool
is_broken_pipe (Some error) = is_pipe_kind (error_kind error)
is_broken_pipe None = false

-- nothing is said of that on a terminal
abbrev pub is_unheard : Bool → Option Error → CommandFault → Bool
is_unheard watched unwritten fault = watched && (is_write_fault fault && is_broken_pipe unwritten)

-- a record took nothing
abbrev pub is_stalled : CommandFault → Bool
is_stalled (Record (records.Stalled number)) = true
is_stalled _ = false

-- nor of a record that took nothing where the input is none, since it could not be opened: that is said by itself
abbrev pub is_unsaid : Bool → Option Error → Option Error → CommandFault → Bool
is_unsaid watched unread unwritten fault = is_unheard watched unwritten fault || (is_stalled fault && is_some unread)

-- the text, and after it why something failed, where more is said than a line, that is known, and memory for it is there
abbrev pub IsWithReason : Bool → Option Error → List ℕ → List ℕ → Type 0
IsWithReason false why text all = all ≡ text
IsWithReason true None text all = all ≡ text
IsWithReason true (Some error) text all = (all ≡ text) ⊎ ((said : List ℕ) × IsReasonNote error said × (all ≡ text ++ said))
