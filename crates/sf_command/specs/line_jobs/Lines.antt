-- What a scan of the lines of an input writes, says and answers.
use Rattle.std.specs.Prelude.{◌≡◌, ◌⊎◌, ◌-◌, ◌++◌, ◌∷◌, ℕ, Bool, true, false, if◌then◌else◌, List, [], length, Option, Some, None, Result}
use Rattle.std.specs.Prelude.{Ok, Err, IfErr, IfOk, option_map, slice_get}
use Rattle.std.specs.Option.{ForSome}
use Rattle.sf_format.specs.declared.directive.Directive.{Directive}
use Rattle.sf_format.specs.declared.directive.Profile.{Profile}
use Rattle.sf_format.specs.Grammar.{IsFormat}
use Rattle.sf_format.specs.Language.{Scan}
use Rattle.sf_format.specs.Pieces.{Piece, text_of}
use Rattle.sf_records.specs.declared.by_lines.end.LineFault.{LineFault}
use Rattle.sf_records.specs.declared.by_lines.end.LinesEnd.{LinesEnd}
use Rattle.sf_records.specs.declared.by_lines.end.LinesFault.{LinesFault}
use Rattle.sf_records.specs.declared.by_lines.options.LinesOptions.{LinesOptions}
use Rattle.sf_records.specs.by_lines.Loops.{TellsLines, status_by}
use Rattle.sf_records.specs.by_lines.Telling.{faults_by}
use Rattle.sf_records.specs.by_lines.Turns.{LineWork, work_of}
use Rattle.sf_messages.specs.declared.fault.CommandFault.TheVariants.{BadEscape, Format, Lines, NameCount, PrintFormat, Unprintable}
use Rattle.sf_messages.specs.declared.fault.FormatName.TheVariants as name
use Rattle.sf_messages.specs.LineTexts.{line_fault_text}
use Rattle.sf_messages.specs.Notes.{escape_notes, mismatch_notes, name_count_notes}
use Rattle.sf_read.specs.source.Ahead.{Ahead, input_of}
use Rattle.sf_forms.specs.makers.Forms.{Heading, writing_under}
use Rattle.sf_forms.specs.makers.Names.{AreNames}
use Rattle.sf_forms.specs.makers.Prints.{printing}
use Rattle.sf_forms.specs.makers.Works.{Work, Writes, sink_failed}
use Rattle.sf_forms.specs.declared.makers.maker.Unwritten.{Unwritten}
use Rattle.sf_print.specs.sink.Sinks.{counted_on}
use Rattle.sf_records.specs.form.OutputForm.{OutputForm}
use Rattle.sf_words.specs.declared.order.LineOptions.{LineOptions}
use Rattle.sf_command.specs.jobs.Answers.{Answer}
use Rattle.sf_command.specs.jobs.Checks.{IsFaultOf}
use Rattle.sf_command.specs.jobs.Commands.{Counts}
use Rattle.sf_arguments.specs.Escapes.{Unescapes}
use Rattle.sf_command.specs.notes.Explains.{AreSpansOf, OfWord, SaysFormat, more_of_line}
use Rattle.sf_command.specs.declared.jobs.writing.Writing.{Writing}
use Rattle.sf_command.specs.jobs.Writings.{IsWriting, SuitsAll}
use Rattle.sf_command.specs.declared.jobs.writing.Writing.TheVariants.{Form, Print}
use Rattle.sf_command.specs.jobs.Heads.{IsUnnamed, due_header, header_fault, heading_by, split}
use Rattle.sf_command.specs.console.Fronts.{in_front}
use Rattle.sf_command.specs.declared.line_jobs.lines.Voice.{Voice}
use Rattle.sf_command.specs.jobs.LinesJobs.{AreRefused, AreScanWords, IsFirstRefused}

-- what is said after the line of an answer: of the print format's word, or of the first other word that is refused, why, by the word
-- or the bytes of its format
abbrev pub SaysOfLines : Profile → Option (List ℕ) → List (List ℕ) → Answer → List ℕ → Type 0
SaysOfLines profile print words (Err (BadEscape name.Scan at)) notes =
    (word : List ℕ) × IsFirstRefused profile words word (BadEscape name.Scan at) × (notes ≡ escape_notes word at)
SaysOfLines profile print words (Err (BadEscape name.Print at)) notes = OfWord (λ word said. said ≡ escape_notes word at) print notes
SaysOfLines profile print words (Err (Format fault)) notes = (word : List ℕ) × IsFirstRefused profile words word (Format fault)
    × SaysFormat fault word notes
SaysOfLines profile print words (Err (PrintFormat fault)) notes = OfWord (SaysFormat fault) print notes
SaysOfLines profile print words (Err (Unprintable mismatch)) notes = notes ≡ mismatch_notes mismatch
SaysOfLines profile print words (Err (NameCount expected got)) notes = notes ≡ name_count_notes expected got
SaysOfLines profile print words _ notes = notes ≡ []

-- nothing is said where the words don't ask for it, or where memory for it was refused
abbrev pub SaysMoreOfLines : Bool → Profile → Option (List ℕ) → List (List ℕ) → Answer → List ℕ → Type 0
SaysMoreOfLines true profile print words answer notes = SaysOfLines profile print words answer notes ⊎ (notes ≡ [])
SaysMoreOfLines false profile print words answer notes = notes ≡ []

-- ---- lines

-- what is said of a line that is none: nothing, or its line, with the name of its file in front, and more behind that
abbrev pub line_telling : Option (List ℕ) → Bool → (List ℕ → LineFault → List ℕ) → ℕ → List ℕ → LineFault → List ℕ
line_telling file quiet more number line fault =
    if quiet then [] else in_front file (line_fault_text number fault ++ 10 ∷ []) ++ more line fault

-- this is what is said of each line, by the bytes of the last format and its directives: where nothing more is asked for, its
-- line alone
abbrev pub SaysLines : Option (List ℕ) → Profile → Bool → Bool → List ℕ → List Directive → (ℕ → List ℕ → LineFault → List ℕ) → Type 0
SaysLines file profile quiet false text ds telling = telling ≡ line_telling file quiet (λ line fault. [])
SaysLines file profile quiet true text ds telling =
    (pieces : List Piece) × IsFormat (Scan profile) pieces × (text ≡ text_of pieces)
    × (telling ≡ line_telling file quiet (more_of_line pieces ds))

-- there is something that is said of lines by these
abbrev pub SomeIsSaid : Option (List ℕ) → Profile → Bool → Bool → List ℕ → List Directive → Type 0
SomeIsSaid file profile quiet explain text ds = ∥ ((telling : ℕ → List ℕ → LineFault → List ℕ)
    × SaysLines file profile quiet explain text ds telling) ∥₁

-- the same of what a voice says
abbrev pub SaysBy : Voice → (ℕ → List ℕ → LineFault → List ℕ) → Type 0
SaysBy v telling = SaysLines (option_map (λ name. name.now) v.file) v.profile v.quiet v.explain v.text.now v.format.now telling

abbrev pub SomeIsSaidBy : Voice → Type 0
SomeIsSaidBy v = SomeIsSaid (option_map (λ name. name.now) v.file) v.profile v.quiet v.explain v.text.now v.format.now

-- where its directives stand is known to it rightly, if it is known
abbrev pub KnowsSpans : Voice → Type 0
KnowsSpans v = ForSome v.spans (λ spans. AreSpansOf v.profile v.text.now spans.now)

-- what is said by the words and their formats, of which the last one counts on a line that matches none
pub record IsTelling (file : Option (List ℕ)) (profile : Profile) (quiet explain : Bool) (words : List (List ℕ))
    (formats : List (List Directive)) (telling : ℕ → List ℕ → LineFault → List ℕ) : Type 0 where
  pub word : List ℕ
  pub text : List ℕ
  pub ds : List Directive
  pub last_word : slice_get words (length words - 1) ≡ Some word
  pub last_format : slice_get formats (length formats - 1) ≡ Some ds
  pub stands : Unescapes word text
  pub says : SaysLines file profile quiet explain text ds telling

-- how lines are scanned, of at most so many bytes
abbrev pub options_of : LineOptions → ℕ → LinesOptions
options_of o limit = record { limit = limit; skip = o.skip; whole = o.whole; keep_going = o.keep_going; matching = o.matching }

-- by which formats lines are passed over, and by which they are scanned
abbrev pub scanning : (ℕ → List Directive → Work) → LineOptions → ℕ → List (List Directive) → List (List Directive)
    → (ℕ → List ℕ → LineFault → List ℕ) → LineWork
scanning makes o limit ignored formats telling = work_of (options_of o limit) ignored formats makes telling

-- what the command answers where the loop over the lines has ended
abbrev pub answer_by : ℕ → Option LinesFault → Answer
answer_by status (Some fault) = Err (Lines fault)
answer_by status None = Ok status

-- What is done of the lines by the formats: what the loop over the lines of the input does, where this is made of each record by the
-- format with that number, and what it tells is said to the error output as it comes. mute: the error output failed; it has then
-- taken a part
-- of what was to be said, and nothing was said after that.
pub record RunsLines {S K E : Type 0} (to_come : S → Option (List ℕ)) (read_faults : S → ℕ) (contents : K → Option (List ℕ))
    (write_faults : K → ℕ)
    (said : E → Option (List ℕ)) (unsaid : E → ℕ) (makes : ℕ → List Directive → Work) (options : LineOptions) (limit : ℕ)
    (ignored formats : List (List Directive)) (telling : ℕ → List ℕ → LineFault → List ℕ)
    (from from' : Ahead S) (out out' : K) (err err' : E) (answer : Answer) : Type 0 where
  pub end : LinesEnd
  pub mute : Bool
  pub tells : (t : List ℕ) → input_of to_come from ≡ Some t
      → TellsLines (scanning makes options limit ignored formats telling) to_come t from' (read_faults from.source)
      (read_faults from'.source)
      (contents out) (contents out') false mute (said err) (said err') end
  pub faults : unsaid err' ≡ faults_by false mute (unsaid err)
  pub status : end.status ≡ status_by end.failed end.fault
  pub answers : answer ≡ answer_by end.status end.fault
  pub failures : Counts (write_faults out) (write_faults out') answer

module _ {S K E : Type 0} (to_come : S → Option (List ℕ)) (read_faults : S → ℕ) (contents : K → Option (List ℕ)) (write_faults : K → ℕ)
    (said : E → Option (List ℕ)) (unsaid : E → ℕ) where
  -- The header is written, where it is due, and then the lines are scanned; or the sink fails within it, or memory is refused, with
  -- nothing read or said.
  pub record RunsUnder (due : Bool) (heading : Heading) (options : LineOptions) (limit : ℕ) (ignored formats : List (List Directive))
      (telling : ℕ → List ℕ → LineFault → List ℕ) (from from' : Ahead S) (out out' : K) (err err' : E) (answer : Answer) : Type 0 where
    pub mid : K
    pub wrote : Result (Unit {0}) Unwritten
    pub header : Writes true (due_header due heading) (contents out) (contents mid) wrote
    pub failures : write_faults mid ≡ (if sink_failed wrote then counted_on (write_faults out) else write_faults out)
    pub scanned : IfOk wrote (λ _. RunsLines to_come read_faults contents write_faults said unsaid (writing_under heading) options limit
        ignored formats telling from from' mid out' err err' answer)
    pub stopped : IfErr wrote (λ why. (answer ≡ Err (header_fault why)) × (from' ≡ from) × (out' ≡ mid) × (err' ≡ err))

  -- Where there are no names, there is no header. The names in a text are names of the formats' values, and the lines are scanned under
  -- them; or they are none, with nothing read, written or said.
  abbrev pub RunsForm : OutputForm → Bool → Bool → Option (List ℕ) → LineOptions → ℕ → List (List Directive) → List (List Directive)
      → (ℕ → List ℕ → LineFault → List ℕ) → Ahead S → Ahead S → K → K → E → E → Answer → Type 0
  RunsForm form tagged due None options limit ignored formats telling from from' out out' err err' answer =
      RunsLines to_come read_faults contents write_faults said unsaid (writing_under (heading_by form None tagged)) options limit ignored
      formats telling from from' out out' err err' answer
  RunsForm form tagged due (Some names) options limit ignored formats telling from from' out out' err err' answer =
      IsFaultOf (IsUnnamed tagged names formats) answer × (from' ≡ from) × (out' ≡ out) × (err' ≡ err)
      ⊎ AreNames tagged (split names) formats
      × RunsUnder due (heading_by form (Some names) tagged) options limit ignored formats telling from from' out out' err err' answer

  -- what is made of records is written so
  abbrev pub RunsWriting : Bool → Bool → Option (List ℕ) → Writing → LineOptions → ℕ → List (List Directive) → List (List Directive)
      → (ℕ → List ℕ → LineFault → List ℕ) → Ahead S → Ahead S → K → K → E → E → Answer → Type 0
  RunsWriting tagged due names (Form form) options limit ignored formats telling from from' out out' err err' answer =
      RunsForm form tagged due names options limit ignored formats telling from from' out out' err err' answer
  RunsWriting tagged due names (Print units) options limit ignored formats telling from from' out out' err err' answer =
      RunsLines to_come read_faults contents write_faults said unsaid (λ number. printing units) options limit ignored formats telling
      from from' out out' err err' answer

-- The words are refused, with nothing read, written or said; or they are formats, and the lines are scanned by them. file: the name of
-- the file that is read, if it has one; due: whether a header is; strict: whether each conversion is read as if it had !; explain:
-- whether more is said of a line that fails than its line.
abbrev pub ScansLines : {S K E : Type 0} → (S → Option (List ℕ)) → (S → ℕ) → (K → Option (List ℕ)) → (K → ℕ) → (E → Option (List ℕ))
    → (E → ℕ) → Option (List ℕ) → Bool → Bool → Profile → OutputForm → Bool → Option (List ℕ) → Option (List ℕ) → LineOptions → Bool → ℕ
    → List (List ℕ) → List (List ℕ) → Ahead S → Ahead S → K → K → E → E → Answer → Type 0
ScansLines to_come read_faults contents write_faults said unsaid file due strict profile form tagged names print options explain limit
    passed words
    from from' out out' err err' answer =
    IsFaultOf (AreRefused strict profile form print passed words) answer × (from' ≡ from) × (out' ≡ out) × (err' ≡ err)
    ⊎ ((writing : Writing) × (ignored formats : List (List Directive)) × (telling : ℕ → List ℕ → LineFault → List ℕ)
    × IsWriting profile form print writing × AreScanWords strict profile passed ignored × AreScanWords strict profile words formats
    × SuitsAll writing formats × IsTelling file profile options.quiet explain words formats telling
    × RunsWriting to_come read_faults contents write_faults said unsaid tagged due names writing options limit ignored formats telling from
    from' out out' err err' answer)
