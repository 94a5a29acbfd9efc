-- What the command answers, and what it writes. `to_come` tells the bytes that a source will give, `contents` those that a
-- sink took, where they tell them; the failures of both are counted.
use Rattle.std.specs.Prelude.{◌≡◌, ◌⊎◌, ℕ, Bool, true, false, if◌then◌else◌, List, [], ◌∷◌, Option, Some, None, Result, Ok, Err, IfErr}
use Rattle.std.specs.Prelude.{IfOk, map, option_map, string_bytes}
use Rattle.std.specs.Io.KnownBytes.{Appends}
use Rattle.sf_format.specs.declared.directive.Directive.{Directive}
use Rattle.sf_format.specs.declared.directive.Profile.{Profile}
use Rattle.sf_format.specs.declared.directive.Profile.TheVariants as grammar
use Rattle.sf_format.specs.Faults.{Fault, PrintFault}
use Rattle.sf_format.specs.Grammar.{Spells, SpellsPrint}
use Rattle.sf_format.specs.Widths.{width_sum}
use Rattle.sf_format.specs.declared.fault.FormatFault.{FormatFault}
use Rattle.sf_format.specs.declared.fault.FormatWhy.{FormatWhy}
use Rattle.sf_format.specs.declared.unit.Unit.{Unit as PrintUnit}
use Rattle.sf_records.specs.declared.by_lines.end.LinesFault.TheVariants as lines_fault
use Rattle.sf_messages.specs.Faults.{format_fault, print_format_fault}
use Rattle.sf_pair.specs.Groups.{IsAligned}
use Rattle.sf_pair.specs.Walk.{pair_fault}
use Rattle.sf_print.specs.sink.Sinks.{counted_on}
use Rattle.sf_read.specs.source.Ahead.{Ahead, input_of}
use Rattle.sf_records.specs.declared.end.ToolEnd.{ToolEnd}
use Rattle.sf_records.specs.declared.end.ToolFault.{ToolFault}
use Rattle.sf_records.specs.form.OutputForm.{OutputForm}
use Rattle.sf_records.specs.form.OutputForm.TheVariants as form
use Rattle.sf_forms.specs.makers.Prints.{IsPrintable, printing}
use Rattle.sf_forms.specs.makers.Forms.{Heading, writing_under}
use Rattle.sf_forms.specs.makers.Names.{AreNames}
use Rattle.sf_forms.specs.makers.Works.{Work, Writes, sink_failed}
use Rattle.sf_forms.specs.declared.makers.maker.Unwritten.{Unwritten}
use Rattle.sf_records.specs.Copies.{copying}
use Rattle.sf_records.specs.Forms.{writing}
use Rattle.sf_records.specs.declared.end.ToolFault.TheVariants as record_fault
use Rattle.sf_records.specs.Judging.{TakesPart}
use Rattle.sf_records.specs.Records.{Loops}
use Rattle.sf_words.specs.declared.order.Order.{Order}
use Rattle.sf_words.specs.declared.order.Output.{Output}
use Rattle.sf_words.specs.declared.order.Output.TheVariants as output
use Rattle.sf_words.specs.declared.order.Profile.{Profile as GivenProfile}
use Rattle.sf_words.specs.declared.order.Profile.TheVariants as given
use Rattle.sf_words.specs.declared.order.Verb.{Verb}
use Rattle.sf_words.specs.declared.order.Verb.TheVariants as verb
use Rattle.sf_arguments.specs.declared.argument_fault.ArgumentFault.{ArgumentFault}
use Rattle.sf_arguments.specs.declared.argument_fault.ArgumentFault.TheVariants as argument_fault
use Rattle.sf_messages.specs.declared.fault.FormatName.{FormatName}
use Rattle.sf_messages.specs.declared.fault.FormatName.TheVariants as name
use Rattle.sf_messages.specs.declared.fault.CommandFault.{CommandFault}
use Rattle.sf_messages.specs.declared.fault.CommandFault.TheVariants.{BadEscape, Format, PrintFormat, Values, Record, Lines, Write, Memory}
use Rattle.sf_messages.specs.declared.fault.CommandFault.TheVariants.{Pair}
use Rattle.sf_command.specs.jobs.Answers.{Answer}
use Rattle.sf_command.specs.jobs.Heads.{IsUnnamed, due_header, header_fault, heading_by, is_headed, names_text, split}
use Rattle.sf_command.specs.jobs.Checks.{AnswersWord, ChecksWords, IsFaultOf, IsNoPrintWord, IsNoScanWord, IsPrintWord, IsScanWord}
use Rattle.sf_command.specs.jobs.Checks.{IsReadWord, IsUnprintable, SpellsRead}
use Rattle.sf_arguments.specs.Escapes.{IsBadEscape, Unescapes}
use Rattle.sf_arguments.specs.Prints.{Answers, IsUnwritten}
use Rattle.sf_arguments.specs.declared.word_reading.WordReading.{WordReading}
use Rattle.sf_arguments.specs.declared.word_reading.WordReading.TheVariants as reading
use Rattle.sf_messages.specs.shown.Shown.{show_text}

-- ---- faults

-- a format that has a fault is refused for it
abbrev pub TellsFault : (ℕ → FormatWhy → Type 0) → (FormatFault → CommandFault) → Answer → Type 0
TellsFault has told answer = (at : ℕ) (why : FormatWhy) → has at why → answer ≡ Err (told (record { at = at; why = why }))

-- the answer tells that the sink failed
abbrev pub is_write_fault : Answer → Bool
is_write_fault (Err Write) = true
is_write_fault (Err (Values argument_fault.Write)) = true
is_write_fault (Err (Record record_fault.Write)) = true
is_write_fault (Err (Lines lines_fault.Write)) = true
is_write_fault _ = false

-- the sink failed once if the answer tells it, and else never
abbrev pub Counts : ℕ → ℕ → Answer → Type 0
Counts failures failures' answer = failures' ≡ (if is_write_fault answer then counted_on failures else failures)

-- where a text or the values are at fault, or memory was refused before the first record, nothing was written
abbrev pub IsUnwrittenBy : {K : Type 0} → CommandFault → K → K → Type 0
IsUnwrittenBy (Values fault) out out' = IsUnwritten fault out out'
IsUnwrittenBy (Record fault) out out' = Unit {0}
IsUnwrittenBy Write out out' = Unit {0}
IsUnwrittenBy _ out out' = out' ≡ out

-- and nothing was read
abbrev pub Unread : {S K : Type 0} → CommandFault → Ahead S → Ahead S → K → K → Type 0
Unread (Record fault) from from' out out' = Unit {0}
Unread fault from from' out out' = (from' ≡ from) × IsUnwrittenBy fault out out'

-- ---- scans of an input

-- what the command answers where the loop over the records has ended
abbrev pub answer_by : Option ToolFault → Answer
answer_by None = Ok 0
answer_by (Some fault) = Err (Record fault)

-- What a scan of the text by the directives writes and answers: what the loop over its records does, by runs of at most
-- m bytes, where this is made of each record.
abbrev pub Scans : {S : Type 0} → (S → Option (List ℕ)) → (List Directive → Work) → ℕ → List Directive → List ℕ → Ahead S → ℕ → ℕ
    → Option (List ℕ)
    → Option (List ℕ) → Answer → Type 0
Scans to_come makes m ds text now failures failures' before after answer =
    (end : ToolEnd) × Loops (makes ds) to_come ds m text now failures failures' before after end × (answer ≡ answer_by end.fault)

-- what a scan of the text by the format answers: the format is refused for its first fault, or its directives scan, as they are read
abbrev pub ScansBy : {S : Type 0} → (S → Option (List ℕ)) → Bool → Profile → (List Directive → Work) → ℕ → List ℕ → List ℕ → Ahead S → ℕ → ℕ
    → Option (List ℕ)
    → Option (List ℕ) → Answer → Type 0
ScansBy to_come strict profile makes m format text now failures failures' before after (Err (Format fault)) =
    Fault profile format fault.at fault.why
ScansBy to_come strict profile makes m format text now failures failures' before after (Err Memory) = after ≡ before
ScansBy to_come strict profile makes m format text now failures failures' before after answer =
    (ds : List Directive) × SpellsRead strict profile format ds × Scans to_come makes m ds text now failures failures' before after answer

-- ---- shows of a format

-- what a show of the directives answers; where the sink fails, it took a front of the lines
abbrev pub Shows : List Directive → Option (List ℕ) → Option (List ℕ) → Answer → Type 0
Shows ds before after (Ok status) = Appends before after (show_text ds (width_sum ds)) × (status ≡ 0)
Shows ds before after (Err Write) = TakesPart before after (show_text ds (width_sum ds))
Shows ds before after (Err _) = ⊥

-- what a show of the format answers: the format is refused for its first fault, or its directives are shown
abbrev pub ShowsBy : Profile → List ℕ → Option (List ℕ) → Option (List ℕ) → Answer → Type 0
ShowsBy profile format before after (Err (Format fault)) = Fault profile format fault.at fault.why
ShowsBy profile format before after (Err Memory) = after ≡ before
ShowsBy profile format before after answer = (ds : List Directive) × Spells profile format ds × Shows ds before after answer

-- ---- prints of values

-- what the command answers for what a print of its values does
abbrev pub print_answer : Result (Unit {0}) ArgumentFault → Answer
print_answer (Ok _) = Ok 0
print_answer (Err fault) = Err (Values fault)

-- what a print by the format answers: the format is refused for its first fault, or its units print the values
abbrev pub PrintsBy : WordReading → Profile → List ℕ → List (List ℕ) → Option (List ℕ) → Option (List ℕ) → Answer → Type 0
PrintsBy how profile format values before after (Err (PrintFormat fault)) = PrintFault profile format fault.at fault.why
PrintsBy how profile format values before after (Err Memory) = after ≡ before
PrintsBy how profile format values before after answer = (units : List PrintUnit) × SpellsPrint profile format units
    × ((given : Result (Unit {0}) ArgumentFault) × Answers how units values before after given × (answer ≡ print_answer given))

-- ---- words

-- a format's text is refused for its first bad escape; want of memory is told of one without any
abbrev pub IsBadText : FormatName → List ℕ → CommandFault → Type 0
IsBadText name word (BadEscape of at) = (of ≡ name) × IsBadEscape word at
IsBadText name word Memory = (bytes : List ℕ) × Unescapes word bytes
IsBadText name word _ = ⊥

-- where the word's escapes are not resolved, nothing was read or written
pub record IsRefusedText {S K : Type 0} (name : FormatName) (word : List ℕ) (from from' : S) (out out' : K) (answer : Answer) : Type 0 where
  pub unread : from' ≡ from
  pub unwritten : out' ≡ out
  pub fault : CommandFault
  pub answers : answer ≡ Err fault
  pub bad : IsBadText name word fault

-- what is done by a format's text: its faults are told, and where it is refused nothing was read or written
pub record ScansText {S K : Type 0} (to_come : S → Option (List ℕ)) (read_faults : S → ℕ) (contents : K → Option (List ℕ))
    (write_faults : K → ℕ) (strict : Bool) (profile : Profile) (makes : List Directive → Work) (limit : ℕ) (text : List ℕ)
    (from from' : Ahead S) (out out' : K) (answer : Answer) : Type 0 where
  pub scans : (t : List ℕ) → input_of to_come from ≡ Some t → ScansBy to_come strict profile makes limit text t from'
      (read_faults from.source)
      (read_faults from'.source) (contents out) (contents out') answer
  pub refused : TellsFault (Fault profile text) format_fault answer
  pub unread : IfErr answer (λ fault. Unread fault from from' out out')
  pub failures : Counts (write_faults out) (write_faults out') answer

abbrev pub ScansWord : {S K : Type 0} → (S → Option (List ℕ)) → (S → ℕ) → (K → Option (List ℕ)) → (K → ℕ) → Bool → Profile
    → (List Directive → Work) → ℕ → List ℕ → Ahead S → Ahead S → K → K → Answer → Type 0
ScansWord to_come read_faults contents write_faults strict profile makes limit word from from' out out' answer =
    IsRefusedText name.Scan word from from' out out' answer
    ⊎ ((text : List ℕ) × Unescapes word text
    × ScansText to_come read_faults contents write_faults strict profile makes limit text from from' out out' answer)

pub record ShowsText {K : Type 0} (contents : K → Option (List ℕ)) (write_faults : K → ℕ) (profile : Profile) (text : List ℕ)
    (out out' : K) (answer : Answer) : Type 0 where
  pub shows : ShowsBy profile text (contents out) (contents out') answer
  pub refused : TellsFault (Fault profile text) format_fault answer
  pub unwritten : IfErr answer (λ fault. IsUnwrittenBy fault out out')
  pub failures : Counts (write_faults out) (write_faults out') answer

abbrev pub ShowsWord : {K : Type 0} → (K → Option (List ℕ)) → (K → ℕ) → Profile → List ℕ → K → K → Answer → Type 0
ShowsWord contents write_faults profile word out out' answer =
    IsRefusedText {S = Unit {0}} name.Scan word tt tt out out' answer
    ⊎ ((text : List ℕ) × Unescapes word text × ShowsText contents write_faults profile text out out' answer)

pub record PrintsText {K : Type 0} (contents : K → Option (List ℕ)) (write_faults : K → ℕ) (how : WordReading) (profile : Profile)
    (text : List ℕ) (values : List (List ℕ)) (out out' : K) (answer : Answer) : Type 0 where
  pub prints : PrintsBy how profile text values (contents out) (contents out') answer
  pub refused : TellsFault (PrintFault profile text) print_format_fault answer
  pub unwritten : IfErr answer (λ fault. IsUnwrittenBy fault out out')
  pub failures : Counts (write_faults out) (write_faults out') answer

abbrev pub PrintsWord : {K : Type 0} → (K → Option (List ℕ)) → (K → ℕ) → WordReading → Profile → List ℕ → List (List ℕ) → K → K → Answer
    → Type 0
PrintsWord contents write_faults how profile word values out out' answer =
    IsRefusedText {S = Unit {0}} name.Print word tt tt out out' answer
    ⊎ ((text : List ℕ) × Unescapes word text × PrintsText contents write_faults how profile text values out out' answer)

-- ---- checks of two formats

pub record ChecksBoth {K : Type 0} (contents : K → Option (List ℕ)) (write_faults : K → ℕ) (profile : Profile) (print scan : List ℕ)
    (out out' : K) (answer : Answer) : Type 0 where
  pub checks : ChecksWords profile print scan (contents out) (contents out') answer
  pub unwritten : IfErr answer (λ fault. IsUnwrittenBy fault out out')
  pub failures : Counts (write_faults out) (write_faults out') answer

-- ---- checks of a print format alone

pub record AnswersPrint {K : Type 0} (contents : K → Option (List ℕ)) (write_faults : K → ℕ) (profile : Profile) (width : Option ℕ)
    (print : List ℕ) (out out' : K) (answer : Answer) : Type 0 where
  pub answers : AnswersWord profile width print (contents out) (contents out') answer
  pub unwritten : IfErr answer (λ fault. IsUnwrittenBy fault out out')
  pub failures : Counts (write_faults out) (write_faults out') answer

-- the second word is a scan format, or there is none
abbrev pub ChecksTexts : {K : Type 0} → (K → Option (List ℕ)) → (K → ℕ) → Profile → Option ℕ → List ℕ → List (List ℕ) → K → K → Answer
    → Type 0
ChecksTexts contents write_faults profile width print [] out out' answer =
    AnswersPrint contents write_faults profile width print out out' answer
ChecksTexts contents write_faults profile width print (scan ∷ []) out out' answer =
    ChecksBoth contents write_faults profile print scan out out' answer
ChecksTexts contents write_faults profile width print _ out out' answer = ⊥

-- ---- copies by two formats

-- What a copy by the formats writes and answers: they are no pair, by the first fault of the walk over both; or the records of
-- the input are copied, by runs of at most m bytes.
abbrev pub Copies : {S : Type 0} → (S → Option (List ℕ)) → (S → ℕ) → ℕ → List PrintUnit → List Directive → Ahead S → Ahead S
    → Option (List ℕ) → Option (List ℕ) → Answer → Type 0
Copies to_come read_faults m units ds from from' before after (Err (Pair fault)) = pair_fault units ds ≡ Some fault
Copies to_come read_faults m units ds from from' before after answer =
    IsAligned units ds × ((end : ToolEnd) × (answer ≡ answer_by end.fault)
    × ((t : List ℕ) → input_of to_come from ≡ Some t → Loops (copying units ds) to_come ds m t from' (read_faults from.source)
    (read_faults from'.source) before after end))

-- the first word is no print format; or it is one, and the second is no scan format; or both copy
abbrev pub CopiesWords : {S : Type 0} → (S → Option (List ℕ)) → (S → ℕ) → Profile → ℕ → List ℕ → List ℕ → Ahead S → Ahead S
    → Option (List ℕ) → Option (List ℕ) → Answer → Type 0
CopiesWords to_come read_faults profile m print scan from from' before after answer =
    IsFaultOf (IsNoPrintWord profile print) answer
    ⊎ ((units : List PrintUnit) × IsPrintWord profile print units
    × (IsFaultOf (IsNoScanWord profile scan) answer ⊎ ((ds : List Directive) × IsScanWord profile scan ds
    × Copies to_come read_faults m units ds from from' before after answer)))

-- where a word is no format, or the formats are no pair, nothing was read or written
pub record CopiesBoth {S K : Type 0} (to_come : S → Option (List ℕ)) (read_faults : S → ℕ) (contents : K → Option (List ℕ))
    (write_faults : K → ℕ) (profile : Profile) (limit : ℕ) (print scan : List ℕ)
    (from from' : Ahead S) (out out' : K) (answer : Answer) : Type 0 where
  pub copies : CopiesWords to_come read_faults profile limit print scan from from' (contents out) (contents out') answer
  pub unread : IfErr answer (λ fault. Unread fault from from' out out')
  pub failures : Counts (write_faults out) (write_faults out') answer

-- ---- scans that print their records

-- What a scan that prints its records writes and answers: the print format can't print what the scan format gives; or the records of
-- the input are printed, by runs of at most m bytes.
abbrev pub ScansPrint : {S : Type 0} → (S → Option (List ℕ)) → (S → ℕ) → ℕ → List PrintUnit → List Directive → Ahead S → Ahead S
    → Option (List ℕ) → Option (List ℕ) → Answer → Type 0
ScansPrint to_come read_faults m units ds from from' before after answer =
    IsFaultOf (IsUnprintable units ds) answer
    ⊎ IsPrintable units ds × ((end : ToolEnd) × (answer ≡ answer_by end.fault)
    × ((t : List ℕ) → input_of to_come from ≡ Some t → Loops (printing units ds) to_come ds m t from' (read_faults from.source)
    (read_faults from'.source) before after end))

-- the first word is no print format; or it is one, and the second is no scan format; or the records are scanned by the one and
-- printed by the other
abbrev pub ScansPrintWords : {S : Type 0} → (S → Option (List ℕ)) → (S → ℕ) → Bool → Profile → ℕ → List ℕ → List ℕ → Ahead S → Ahead S
    → Option (List ℕ) → Option (List ℕ) → Answer → Type 0
ScansPrintWords to_come read_faults strict profile m print scan from from' before after answer =
    IsFaultOf (IsNoPrintWord profile print) answer
    ⊎ ((units : List PrintUnit) × IsPrintWord profile print units
    × (IsFaultOf (IsNoScanWord profile scan) answer ⊎ ((ds : List Directive) × IsReadWord strict profile scan ds
    × ScansPrint to_come read_faults m units ds from from' before after answer)))

-- where a word is no format, or the one can't print what the other gives, nothing was read or written
pub record ScansPrints {S K : Type 0} (to_come : S → Option (List ℕ)) (read_faults : S → ℕ) (contents : K → Option (List ℕ))
    (write_faults : K → ℕ) (strict : Bool) (profile : Profile) (limit : ℕ) (print scan : List ℕ)
    (from from' : Ahead S) (out out' : K) (answer : Answer) : Type 0 where
  pub scans : ScansPrintWords to_come read_faults strict profile limit print scan from from' (contents out) (contents out') answer
  pub unread : IfErr answer (λ fault. Unread fault from from' out out')
  pub failures : Counts (write_faults out) (write_faults out') answer

-- ---- scans under names

-- The header is written, where it is due, and then the records of the input, under this heading; or the sink fails within the header, or
-- memory is refused, with nothing read.
pub record ScansUnder {S K : Type 0} (to_come : S → Option (List ℕ)) (read_faults : S → ℕ) (contents : K → Option (List ℕ))
    (write_faults : K → ℕ) (due : Bool) (heading : Heading) (m : ℕ) (ds : List Directive) (from from' : Ahead S) (out out' : K)
    (answer : Answer) : Type 0 where
  pub mid : K
  pub wrote : Result (Unit {0}) Unwritten
  pub header : Writes true (due_header due heading) (contents out) (contents mid) wrote
  pub failures : write_faults mid ≡ (if sink_failed wrote then counted_on (write_faults out) else write_faults out)
  pub scanned : IfOk wrote (λ _. Counts (write_faults mid) (write_faults out') answer × ((end : ToolEnd) × (answer ≡ answer_by end.fault)
      × ((t : List ℕ) → input_of to_come from ≡ Some t → Loops (writing_under heading 1 ds) to_come ds m t from'
      (read_faults from.source) (read_faults from'.source) (contents mid) (contents out') end)))
  pub stopped : IfErr wrote (λ why. (answer ≡ Err (header_fault why)) × (from' ≡ from) × (out' ≡ mid))

-- the names in the text are none of the values: then nothing was read or written; or the records are scanned under the names
abbrev pub ScansByNames : {S K : Type 0} → (S → Option (List ℕ)) → (S → ℕ) → (K → Option (List ℕ)) → (K → ℕ) → OutputForm
    → Bool → List ℕ → ℕ → List Directive → Ahead S → Ahead S → K → K → Answer → Type 0
ScansByNames to_come read_faults contents write_faults form due names m ds from from' out out' answer =
    IsFaultOf (IsUnnamed false names (ds ∷ [])) answer × (from' ≡ from) × (out' ≡ out)
    ⊎ AreNames false (split names) (ds ∷ [])
    × ScansUnder to_come read_faults contents write_faults due (heading_by form (Some names) false) m ds from from' out out' answer

-- the word is no scan format, and nothing was read or written; or it is one, and its records are scanned under the names
abbrev pub ScansNamed : {S K : Type 0} → (S → Option (List ℕ)) → (S → ℕ) → (K → Option (List ℕ)) → (K → ℕ) → Bool → Profile → OutputForm
    → Bool → List ℕ → ℕ → List ℕ → Ahead S → Ahead S → K → K → Answer → Type 0
ScansNamed to_come read_faults contents write_faults strict profile form due names m word from from' out out' answer =
    IsFaultOf (IsNoScanWord profile word) answer × (from' ≡ from) × (out' ≡ out)
    ⊎ ((ds : List Directive) × IsReadWord strict profile word ds
    × ScansByNames to_come read_faults contents write_faults form due names m ds from from' out out' answer)

-- records have no names, or those in the text; due: whether a header is
abbrev pub ScansForm : {S K : Type 0} → (S → Option (List ℕ)) → (S → ℕ) → (K → Option (List ℕ)) → (K → ℕ) → Bool → Profile → OutputForm
    → Bool → Option (List ℕ) → ℕ → List ℕ → Ahead S → Ahead S → K → K → Answer → Type 0
ScansForm to_come read_faults contents write_faults strict profile form due None limit word from from' out out' answer =
    ScansWord to_come read_faults contents write_faults strict profile (writing form) limit word from from' out out' answer
ScansForm to_come read_faults contents write_faults strict profile form due (Some names) limit word from from' out out' answer =
    ScansNamed to_come read_faults contents write_faults strict profile form due names limit word from from' out out' answer

-- records are written in the form; or by the print format of a word, where there is one
abbrev pub ScansAs : {S K : Type 0} → (S → Option (List ℕ)) → (S → ℕ) → (K → Option (List ℕ)) → (K → ℕ) → Bool → Profile → OutputForm
    → Bool → Option (List ℕ) → Option (List ℕ) → ℕ → List ℕ → Ahead S → Ahead S → K → K → Answer → Type 0
ScansAs to_come read_faults contents write_faults strict profile form due names None limit word from from' out out' answer =
    ScansForm to_come read_faults contents write_faults strict profile form due names limit word from from' out out' answer
ScansAs to_come read_faults contents write_faults strict profile form due names (Some print) limit word from from' out out' answer =
    ScansPrints to_come read_faults contents write_faults strict profile limit print word from from' out out' answer

-- ---- orders

-- the grammar that a profile of the words is
abbrev pub grammar_of : GivenProfile → Profile
grammar_of given.One = grammar.One
grammar_of given.Two = grammar.Two
grammar_of given.Three = grammar.Three

-- the form that the words name
abbrev pub form_of : Output → OutputForm
form_of output.Plain = form.Plain
form_of output.Tsv = form.Tsv
form_of output.Json = form.Json
form_of output.Csv = form.Csv

-- how the words of texts are read for a print: as they stand where the words ask for that
abbrev pub reading_of : Bool → WordReading
reading_of true = reading.Raw
reading_of false = reading.Escaped

-- what an order does, by its verb and its texts: by the formats of this grammar, with records in this form, and with the words of
-- texts read so
abbrev pub CarriesOutBy : {S K : Type 0} → (S → Option (List ℕ)) → (S → ℕ) → (K → Option (List ℕ)) → (K → ℕ) → Profile → OutputForm
    → WordReading → Order → Verb → List (List ℕ) → Ahead S → Ahead S → K → K → Answer → Type 0
CarriesOutBy to_come read_faults contents write_faults profile form how order verb.Scan (word ∷ []) from from' out out' answer =
    ScansAs to_come read_faults contents write_faults order.strict profile form (is_headed order.file) (names_text order)
    (option_map string_bytes order.print) order.limit word from from' out out' answer
CarriesOutBy to_come read_faults contents write_faults profile form how order verb.Show (word ∷ []) from from' out out' answer =
    (from' ≡ from) × ShowsWord contents write_faults profile word out out' answer
CarriesOutBy to_come read_faults contents write_faults profile form how order verb.Print (word ∷ values) from from' out out' answer =
    (from' ≡ from) × PrintsWord contents write_faults how profile word values out out' answer
CarriesOutBy to_come read_faults contents write_faults profile form how order verb.Check (print ∷ rest) from from' out out' answer =
    (from' ≡ from) × ChecksTexts contents write_faults profile order.width print rest out out' answer
CarriesOutBy to_come read_faults contents write_faults profile form how order verb.Copy (print ∷ scan ∷ []) from from' out out' answer =
    CopiesBoth to_come read_faults contents write_faults profile order.limit print scan from from' out out' answer
CarriesOutBy to_come read_faults contents write_faults profile form how order _ texts from from' out out' answer = ⊥

-- what an order does
abbrev pub CarriesOut : {S K : Type 0} → (S → Option (List ℕ)) → (S → ℕ) → (K → Option (List ℕ)) → (K → ℕ) → Order
    → Ahead S → Ahead S → K → K → Answer → Type 0
CarriesOut to_come read_faults contents write_faults order from from' out out' answer =
    CarriesOutBy to_come read_faults contents write_faults (grammar_of order.profile) (form_of order.output) (reading_of order.raw) order
    order.verb (map string_bytes order.texts.items) from from' out out' answer
