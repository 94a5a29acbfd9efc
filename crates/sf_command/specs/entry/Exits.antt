-- What one run of the command writes, says and answers.
use Rattle.std.specs.Prelude.{◌≡◌, ◌⊎◌, ◌≤◌, ◌++◌, ℕ, Bool, List, [], true, false, Option, Some, None, Result, Ok, Err, IfErr, IfOk, IfSome}
use Rattle.std.specs.Prelude.{length, map, option_map, string_bytes}
use Rattle.std.specs.Io.KnownBytes.{Appends}
use Rattle.std.specs.declared.io.Error.{Error}
use Rattle.sf_messages.specs.places.Behind.{IsBehind}
use Rattle.sf_messages.specs.declared.places.place.Place.{Place}
use Rattle.sf_read.specs.source.Ahead.{Ahead, input_of}
use Rattle.sf_records.specs.Judging.{TakesPart}
use Rattle.sf_words.specs.declared.order.LineOptions.{LineOptions}
use Rattle.sf_words.specs.declared.order.Notes.{Notes}
use Rattle.sf_words.specs.declared.order.Notes.TheVariants.{Always, OnTerminal, Never}
use Rattle.sf_words.specs.declared.order.Order.{Order}
use Rattle.sf_words.specs.declared.order.Verb.{Verb}
use Rattle.sf_words.specs.declared.order.Verb.TheVariants as verb
use Rattle.sf_words.specs.declared.order.WordsFault.{WordsFault}
use Rattle.sf_words.specs.declared.order.WordsFault.TheVariants.{Help, Usage, NoMemory}
use Rattle.sf_words.specs.Orders.{HasTextsFor, IsOrder, IsRefusal, faults_of}
use Rattle.sf_messages.specs.declared.fault.CommandFault.{CommandFault}
use Rattle.sf_messages.specs.declared.fault.CommandFault.TheVariants.{Write, Memory}
use Rattle.sf_command.specs.jobs.Answers.{Answer}
use Rattle.sf_command.specs.jobs.Commands.{CarriesOut, Counts, form_of, grammar_of}
use Rattle.sf_command.specs.jobs.Heads.{is_headed, names_text}
use Rattle.sf_command.specs.line_jobs.Copies.{CopiesTexts}
use Rattle.sf_command.specs.notes.Explains.{SaysMore, SaysMoreOfRefused}
use Rattle.sf_command.specs.console.Fronts.{file_name}
use Rattle.sf_command.specs.line_jobs.Lines.{SaysMoreOfLines, ScansLines}
use Rattle.sf_command.specs.console.Saying.{Says}
use Rattle.sf_command.specs.console.Ends.{Ends, EndsFailed, EndsKnown, exit_of}
use Rattle.sf_command.specs.entry.Hints.{passed_hint}

-- the same of an order of which a word is refused; the notes on that word come after the line, where more is said than the line
abbrev pub EndsRefused : {K E : Type 0} → (K → K → Type 0) → (E → Option (List ℕ)) → (E → ℕ) → Bool → Bool → Option Error → Option Error
    → Order → List ℕ → CommandFault → K → K → E → E → Answer → Type 0
EndsRefused hands said unsaid watched explain unread unwritten order refused fault out out' err err' ended =
    (notes : List ℕ) × SaysMoreOfRefused explain refused fault notes
    × EndsFailed hands said unsaid watched explain unread unwritten order notes fault out out' err err' ended

-- help is written to the output
abbrev pub HelpsBy : List ℕ → Option (List ℕ) → Option (List ℕ) → Answer → Type 0
HelpsBy text before after (Ok n) = Appends before after text × (n ≡ 0)
HelpsBy text before after (Err Write) = TakesPart before after text
HelpsBy text before after (Err _) = ⊥

abbrev pub Helps : {K : Type 0} → (K → Option (List ℕ)) → (K → ℕ) → List ℕ → K → K → Answer → Type 0
Helps contents failures text out out' answer = HelpsBy text (contents out) (contents out') answer
    × Counts (failures out) (failures out') answer

-- what was read of the words: their order, and no fault is one of them; or why they are refused
pub record IsRead (words : List (List ℕ)) (asked : Result Order WordsFault) : Type 0 where
  pub read : IfOk asked (IsOrder words)
  pub taken : IfOk asked (λ _. faults_of words ≡ [])
  pub refused : IfErr asked (IsRefusal (faults_of words))

-- what each order of the words has: a limit on each record, and the texts that its verb takes
abbrev pub CanRun : Result Order WordsFault → Type 0
CanRun (Ok order) = (order.limit ≤ 2147483647) × HasTextsFor order.lines order.verb (map string_bytes order.texts.items)
CanRun (Err fault) = Unit {0}

-- more is said of a fault than its line: always, or where the error output is a terminal
abbrev pub is_explained : Bool → Notes → Bool
is_explained watched Always = true
is_explained watched OnTerminal = watched
is_explained watched Never = false

-- the most bytes that are read ahead
abbrev pub block_bytes : ℕ
block_bytes = 16384

-- nothing is held yet
abbrev pub unread_of : {S : Type 0} → S → Ahead S
unread_of source = record { held = []; source = source; at_end = false }

module _ {K E : Type 0} (contents : K → Option (List ℕ)) (write_faults : K → ℕ) (hands : K → K → Type 0) (said : E → Option (List ℕ))
    (unsaid : E → ℕ) where
  -- what is done where the words ask for nothing that can be done
  abbrev pub Declines : WordsFault → K → K → E → E → Answer → Type 0
  Declines (Help text) out out' err err' ended =
      (answer : Answer) × ((mid : K) × Helps contents write_faults (string_bytes text) out mid answer
      × Ends hands said unsaid [] answer mid out' err err' ended)
  Declines (Usage text) out out' err err' ended = Says hands said unsaid (string_bytes text) out out' err err' × (ended ≡ Ok 2)
  Declines NoMemory out out' err err' ended = Ends hands said unsaid [] (Err Memory) out out' err err' ended

  -- why_unread, why_unwritten: why the last of the reads and of the writes failed that did, where that is known
  module _ {S : Type 0} (to_come : S → Option (List ℕ)) (read_faults : S → ℕ) (why_unread : S → Option Error)
      (why_unwritten : K → Option Error) where
    -- what an order to scan lines does: what is said of them comes before the line of the fault, and notes after that where a word is
    -- refused, or the names; and what helps where a format of lines that are passed over seems to stand for something else, unless memory
    -- for it was refused
    abbrev pub EndsScans : Bool → Bool → LineOptions → Order → Ahead S → Ahead S → K → K → E → E → Answer → Type 0
    EndsScans watched explain options order from from' out out' err err' ended =
        (answer : Answer) × ((mid : K) × ((between : E)
        × ScansLines to_come read_faults contents write_faults said unsaid (file_name order) (is_headed order.file)
        order.strict (grammar_of order.profile) (form_of order.output) order.tag (names_text order) (option_map string_bytes order.print)
        options explain order.limit (map string_bytes order.ignored.items) (map string_bytes order.texts.items) from from' out mid err
        between answer
        × ((notes : List ℕ)
        × SaysMoreOfLines explain (grammar_of order.profile) (option_map string_bytes order.print)
        (map string_bytes order.ignored.items ++ map string_bytes order.texts.items) answer notes
        × ((all : List ℕ) × ((all ≡ notes ++ passed_hint explain order answer) ⊎ (all ≡ notes))
        × EndsKnown hands said unsaid watched explain (why_unread from'.source) (why_unwritten mid) order all answer mid out' between err'
        ended))))

    -- what an order to copy lines does: the same, with the notes of a copy of records
    abbrev pub EndsCopies : Bool → Bool → LineOptions → Order → Ahead S → Ahead S → K → K → E → E → Answer → Type 0
    EndsCopies watched explain options order from from' out out' err err' ended =
        (answer : Answer) × ((mid : K) × ((between : E)
        × CopiesTexts to_come read_faults contents write_faults said unsaid (file_name order) (grammar_of order.profile) options explain
        order.limit (map string_bytes order.texts.items) from from' out mid err between answer
        × ((notes : List ℕ)
        × SaysMore explain order None [] answer notes
        × EndsKnown hands said unsaid watched explain (why_unread from'.source) (why_unwritten mid) order notes answer mid out' between err'
        ended)))

    -- what an order of lines does, by its verb
    abbrev pub EndsLines : Bool → Bool → LineOptions → Order → Verb → Ahead S → Ahead S → K → K → E → E → Answer → Type 0
    EndsLines watched explain options order verb.Scan from from' out out' err err' ended =
        EndsScans watched explain options order from from' out out' err err' ended
    EndsLines watched explain options order verb.Copy from from' out out' err err' ended =
        EndsCopies watched explain options order from from' out out' err err' ended
    EndsLines watched explain options order _ from from' out out' err err' ended = ⊥

    -- what an order of records does, or one of lines; explain: more is said of a fault than its line
    abbrev pub DoesOrder : Bool → Bool → Option LineOptions → Order → Option Place → Ahead S → Ahead S → K → K → E → E → Answer → Type 0
    DoesOrder watched explain None order place from from' out out' err err' ended =
        (answer : Answer) × ((mid : K)
        × CarriesOut to_come read_faults contents write_faults order from from' out mid answer
        × ((notes : List ℕ)
        × SaysMore explain order place from'.held answer notes
        × EndsKnown hands said unsaid watched explain (why_unread from'.source) (why_unwritten mid) order notes answer mid out' err err'
        ended))
    DoesOrder watched explain (Some options) order place from from' out out' err err' ended =
        EndsLines watched explain options order order.verb from from' out out' err err' ended

    -- What is done for what was read of the words: the order, or help, or the words are refused with nothing read. watched: the error
    -- output is a terminal.
    abbrev pub Does : Bool → Result Order WordsFault → Option Place → Ahead S → Ahead S → K → K → E → E → Answer → Type 0
    Does watched (Ok order) place from from' out out' err err' ended =
        DoesOrder watched (is_explained watched order.notes) order.lines order place from from' out out' err err' ended
    Does watched (Err fault) place from from' out out' err err' ended = (from' ≡ from) × Declines fault out out' err err' ended

    -- What the command comes to by what was read of the words. `hands` says what becomes of the output where a message comes;
    -- `said` and `unsaid` tell of the error output what `contents` and `write_faults` tell of the output. watched: the error output
    -- is a terminal. place: where in the input the run stopped, if that is known.
    pub record ExitsBy (watched : Bool) (words : List (List ℕ)) (asked : Result Order WordsFault) (place : Option Place)
        (from from' : Ahead S) (out out' : K) (err err' : E) (ended : Answer) : Type 0 where
      pub read : IsRead words asked
      pub done : Does watched asked place from from' out out' err err' ended

    -- what the command of the words comes to
    abbrev pub Exits : Bool → List (List ℕ) → Option Place → Ahead S → Ahead S → K → K → E → E → ℕ → Type 0
    Exits watched words place from from' out out' err err' status = (asked : Result Order WordsFault) × (ended : Answer)
        × ExitsBy watched words asked place from from' out out' err err' ended × (status ≡ exit_of ended)

    -- What is done on what a source gives (from), and leaves (from'). left: what is held afterwards, which is a block at most and is
    -- dropped, and the source then. Where the source tells its bytes, the place is that after the bytes which are neither held nor to
    -- come then.
    pub record DoesOn (watched : Bool) (asked : Result Order WordsFault) (from from' : S) (out out' : K) (err err' : E)
        (ended : Answer) : Type 0 where
      pub left : Ahead S
      pub place : Option Place
      pub done : Does watched asked place (unread_of from) left out out' err err' ended
      pub placed : IfSome place (λ p. (c z : List ℕ) → to_come from ≡ Some (c ++ z) → input_of to_come left ≡ Some z → IsBehind c p)
      pub back : left.source ≡ from'
      pub few : length left.held ≤ block_bytes

    -- what the command of the words comes to on what a source gives
    abbrev pub ExitsOn : Bool → List (List ℕ) → S → S → K → K → E → E → ℕ → Type 0
    ExitsOn watched words from from' out out' err err' status = (asked : Result Order WordsFault) × IsRead words asked
        × (ended : Answer) × DoesOn watched asked from from' out out' err err' ended × (status ≡ exit_of ended)

    -- the same, whatever the source then is
    abbrev pub ExitsSomewhere : Bool → List (List ℕ) → S → K → K → E → E → ℕ → Type 0
    ExitsSomewhere watched words from out out' err err' status = (from' : S) × ExitsOn watched words from from' out out' err err' status
