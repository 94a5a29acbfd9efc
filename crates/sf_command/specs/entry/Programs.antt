-- What the program writes and answers, on writers for its output and its error output.
use Rattle.std.specs.Prelude.{◌≡◌, ◌⊎◌, ℕ, zero, suc, Bool, true, false, List, [], Option, Result, Ok, Err}
use Rattle.std.specs.declared.io.Error.{Error}
use Rattle.std.specs.declared.io.traits.Write as write
use Rattle.sf_print.specs.declared.blocks.block_sink.BlockSink.{BlockSink}
use Rattle.sf_print.specs.declared.blocks.unblocked.Unblocked.{Unblocked}
use Rattle.sf_print.specs.blocks.Blocks.{HoldsNothing, faults_of, handed_to, has_failed_flush, last_error_of, taken_by, waiting_in}
use Rattle.sf_print.specs.blocks.Blocks.{write_failures, writer_of}
use Rattle.sf_messages.specs.Texts.{error_line}
use Rattle.sf_messages.specs.declared.fault.CommandFault.TheVariants.{Memory, Write}
use Rattle.sf_words.specs.declared.order.Order.{Order}
use Rattle.sf_words.specs.declared.order.WordsFault.{WordsFault}
use Rattle.sf_command.specs.declared.entry.program.Terminals.{Terminals}
use Rattle.sf_command.specs.entry.Exits.{IsRead, is_explained}
use Rattle.sf_command.specs.entry.Files.{RunsAsked}
use Rattle.sf_command.specs.reasons.Faults.{IsWithReason, is_unheard}
use Rattle.sf_command.specs.console.Saying.{SaysText}
use Rattle.sf_command.specs.console.Hands.{HandsOn}

-- somebody waits for each record: the output is a terminal, or the words say so
abbrev pub IsAwaited : Bool → Result Order WordsFault → Type 0
IsAwaited terminal (Ok order) = (terminal ≡ true) ⊎ (order.line_buffered ≡ true)
IsAwaited terminal (Err fault) = terminal ≡ true

-- the line of a write fault, and why it came, where more is said than the line; nothing is said on a terminal where nobody reads the
-- output any more
abbrev pub SaysUnwritten : {E : Type 0} → write.Ghosts E → Bool → Bool → Option Error → Unblocked E → Unblocked E → Type 0
SaysUnwritten e watched explain why err err' =
    (is_unheard watched why Write ≡ true) × (err' ≡ err)
    ⊎ (is_unheard watched why Write ≡ false) × ((text : List ℕ) × IsWithReason explain why (error_line Write) text
    × SaysText (handed_to e) faults_of text err err')

-- a fault of the last flush is reported, unless the line of a write that failed has done so
abbrev pub Reports : {E : Type 0} → write.Ghosts E → Bool → Bool → Option Error → ℕ → Unblocked E → Unblocked E → Type 0
Reports e watched explain why zero err err' = SaysUnwritten e watched explain why err err'
Reports e watched explain why (suc n) err err' = err' ≡ err

-- more is said of a fault than its line; where the words are refused, that is so on a terminal
abbrev pub is_explained_by : Bool → Result Order WordsFault → Bool
is_explained_by watched (Ok order) = is_explained watched order.notes
is_explained_by watched (Err fault) = watched

module _ {W E : Type 0} (w : write.Ghosts W) (e : write.Ghosts E) where
  -- The end of the program after the command. Either each flush, the last one too, handed on all that waited: then the output's
  -- writer has all that the command wrote, nothing more is said, and the status is the command's. Or one failed: then the status
  -- is 3, and the error output was handed the line of a write that failed, once, and why the last one did.
  abbrev pub Closes : Bool → Bool → BlockSink W w → BlockSink W w → Unblocked E → Unblocked E → ℕ → ℕ → Type 0
  Closes watched explain out out' err err' status status' =
      HandsOn out out'
      × ((has_failed_flush out' ≡ false) × (waiting_in out' ≡ []) × (taken_by out' ≡ w.contents (writer_of out')) × (err' ≡ err)
      × (status' ≡ status)
      ⊎ (has_failed_flush out' ≡ true)
      × Reports e watched explain (last_error_of out') (write_failures out) err err' × (status' ≡ 3))

  -- The program on its streams: what is left of its source (from'), and its writers, given back (out', err'). `opens` says what comes
  -- of opening a file.
  -- opened: the output's sink at the start; it holds nothing back where each record is awaited.
  pub record RunsOn {S F : Type 0} (opens : F → F → List ℕ → S → Bool → Type 0) (to_come : S → Option (List ℕ))
      (read_faults : S → ℕ) (why_unread : S → Option Error) (words : List (List ℕ)) (terminals : Terminals) (from from' : S)
      (files files' : F) (out out' : W)
      (first last : Unblocked E) (status : ℕ) : Type 0 where
    pub asked : Result Order WordsFault
    pub opened : BlockSink W w
    pub ran : BlockSink W w
    pub closed : BlockSink W w
    pub said : Unblocked E
    pub answer : ℕ
    pub empty : taken_by opened ≡ w.contents out
    pub sound : write_failures opened ≡ 0
    pub fresh : has_failed_flush opened ≡ false
    pub read : IsRead words asked
    pub runs : RunsAsked opens taken_by write_failures HandsOn (handed_to e) faults_of to_come read_faults why_unread last_error_of
        terminals.errors asked from from' files files' opened ran first said answer
    pub at_once : IsAwaited terminals.output asked → HoldsNothing opened
    pub closes : Closes terminals.errors (is_explained_by terminals.errors asked) ran closed said last answer status
    pub back : out' ≡ writer_of closed

  -- there is no memory for the output's block: that is said, and nothing was read or written
  abbrev pub IsRefusedBlock : {S F : Type 0} → S → S → F → F → W → W → Unblocked E → Unblocked E → ℕ → Type 0
  IsRefusedBlock from from' files files' out out' first last status =
      (from' ≡ from) × (files' ≡ files) × (out' ≡ out) × SaysText (handed_to e) faults_of (error_line Memory) first last × (status ≡ 4)

  -- what the program does, from the bytes that its streams tell at the start to those that they tell at the end
  pub record RunsProgram {S F : Type 0} (opens : F → F → List ℕ → S → Bool → Type 0) (to_come : S → Option (List ℕ))
      (read_faults : S → ℕ) (why_unread : S → Option Error) (words : List (List ℕ)) (terminals : Terminals) (from from' : S)
      (files files' : F) (out out' : W) (err err' : E)
      (status : ℕ) : Type 0 where
    pub first : Unblocked E
    pub last : Unblocked E
    pub start : handed_to e first ≡ e.contents err
    pub sound : faults_of first ≡ 0
    pub end : handed_to e last ≡ e.contents err'
    pub does : RunsOn opens to_come read_faults why_unread words terminals from from' files files' out out' first last status
        ⊎ IsRefusedBlock from from' files files' out out' first last status
