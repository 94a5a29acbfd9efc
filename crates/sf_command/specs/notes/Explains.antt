-- What is said behind the line of a fault, where the words ask for more.
use Rattle.std.specs.Prelude.{◌≡◌, ◌⊎◌, ◌++◌, ℕ, Bool, true, false, List, [], ◌∷◌, Option, Some, None, Ok, Err, codes, map, option_map}
use Rattle.std.specs.Prelude.{slice_get, string_bytes, unwrap_or}
use Rattle.std.specs.Option.{option_and_then}
use Rattle.sf_format.specs.declared.directive.Directive.{Directive}
use Rattle.sf_format.specs.declared.directive.Profile.{Profile}
use Rattle.sf_format.specs.declared.fault.FormatFault.{FormatFault}
use Rattle.sf_format.specs.declared.fault.FormatWhy.{FormatWhy}
use Rattle.sf_format.specs.declared.unit.Unit.{Unit as PrintUnit}
use Rattle.sf_format.specs.Language.{Scan}
use Rattle.sf_format.specs.Faults.{Fault}
use Rattle.sf_format.specs.Grammar.{IsFormat, MeanAll, Means}
use Rattle.sf_format.specs.Pieces.{Piece, text_at, text_of}
use Rattle.sf_format.specs.Spans.{spans_of}
use Rattle.sf_format.specs.declared.spans.Span.{Span}
use Rattle.sf_records.specs.declared.by_lines.end.LineFault.{LineFault}
use Rattle.sf_records.specs.declared.by_lines.end.LineFault.TheVariants as line
use Rattle.sf_messages.specs.declared.fault.CommandFault.{CommandFault}
use Rattle.sf_messages.specs.declared.fault.CommandFault.TheVariants.{BadEscape, Format, PrintFormat, Values, Record, Pair, Unprintable}
use Rattle.sf_messages.specs.declared.fault.CommandFault.TheVariants.{NameCount}
use Rattle.sf_messages.specs.declared.fault.FormatName.{FormatName}
use Rattle.sf_messages.specs.declared.fault.FormatName.TheVariants as name
use Rattle.sf_messages.specs.Notes.{alone_notes, escape_notes, failed_notes, format_notes, input_notes, line_notes}
use Rattle.sf_messages.specs.Notes.{mismatch_notes, name_count_notes, pair_notes, stalled_notes, value_notes}
use Rattle.sf_pair.specs.declared.fault.PairFault.{PairFault}
use Rattle.sf_messages.specs.declared.places.place.Place.{Place}
use Rattle.sf_records.specs.declared.end.ToolFault.TheVariants.{Failed, Stalled, Unfit, Read}
use Rattle.sf_records.specs.Quotes.{quoted}
use Rattle.sf_run.specs.outcome.Outcome.{Outcome}
use Rattle.sf_words.specs.declared.order.Order.{Order}
use Rattle.sf_words.specs.declared.order.Verb.{Verb}
use Rattle.sf_words.specs.declared.order.Verb.TheVariants as verb
use Rattle.sf_command.specs.jobs.Answers.{Answer}
use Rattle.sf_command.specs.jobs.Checks.{IsPrintWord, IsVerdict, as_read}
use Rattle.sf_command.specs.jobs.Commands.{grammar_of}
use Rattle.sf_arguments.specs.declared.argument_fault.ArgumentFault.{ArgumentFault}
use Rattle.sf_arguments.specs.declared.argument_fault.ArgumentFault.TheVariants as argument
use Rattle.sf_arguments.specs.Escapes.{IsBadEscape, Unescapes}
use Rattle.sf_arguments.specs.answer.Answers.{IsUnpaired}
use Rattle.sf_messages.specs.shown.Shown.{shown_at}

-- ---- the words of formats

-- the place of a format among the texts of an order
abbrev pub word_place : Verb → FormatName → ℕ
word_place verb.Check name.Scan = 1
word_place verb.Copy name.Scan = 1
word_place _ _ = 0

-- the word of a format, if the order has one: the print format of a scan stands beside its texts
abbrev pub word_by : Option (List ℕ) → Verb → List (List ℕ) → FormatName → Option (List ℕ)
word_by print verb.Scan texts name.Print = print
word_by print verb texts name = slice_get texts (word_place verb name)

-- what is said of a format's word, if it is there
abbrev pub OfWord : (List ℕ → List ℕ → Type 0) → Option (List ℕ) → List ℕ → Type 0
OfWord says None notes = notes ≡ []
OfWord says (Some word) notes = says word notes

-- the number of the value at fault, where one is; where the number of words is wrong 0, which is that of the format
abbrev pub value_number : ArgumentFault → Option ℕ
value_number (argument.NotInKind at kind) = Some at
value_number (argument.NotOneByte at) = Some at
value_number (argument.BadEscape at offset) = Some at
value_number (argument.WrongCount expected got) = Some 0
value_number _ = None

-- its word, which stands after that of the format
abbrev pub value_word : List (List ℕ) → ArgumentFault → Option (List ℕ)
value_word texts fault = option_and_then (λ at. slice_get texts at) (value_number fault)

-- ---- faults

-- a format that is refused, by the bytes of its word
abbrev pub SaysFormat : FormatFault → List ℕ → List ℕ → Type 0
SaysFormat fault word notes =
    ((text : List ℕ) × Unescapes word text × (notes ≡ format_notes text fault))
    ⊎ ((at : ℕ) × IsBadEscape word at × (notes ≡ []))

-- how it is told: its own text, as it stands in the format, between quotes, and how it is shown
abbrev pub told_at : List Piece → List Directive → ℕ → List ℕ
told_at pieces ds number = quoted (unwrap_or (text_at number pieces) []) ++ (codes ", " ++ shown_at ds number)

-- this is where the directives of the bytes stand
abbrev pub AreSpansOf : Profile → List ℕ → List Span → Type 0
AreSpansOf profile text spans = (pieces : List Piece) → IsFormat (Scan profile) pieces → text ≡ text_of pieces → spans ≡ spans_of 0 pieces

-- how the directive is told at which a line failed
abbrev pub told_of_line : List Piece → List Directive → LineFault → List ℕ
told_of_line pieces ds (line.Failed outcome) = told_at pieces ds outcome.at
told_of_line pieces ds _ = []

-- what is said behind the line of one that is no match, by the parts of the format that counts on it, and its directives
abbrev pub more_of_line : List Piece → List Directive → List ℕ → LineFault → List ℕ
more_of_line pieces ds line fault = line_notes ds (told_of_line pieces ds fault) line fault

-- the same by its bytes, where that is asked for
abbrev pub IsMoreOfLine : Profile → Bool → List ℕ → List Directive → List ℕ → LineFault → List ℕ → Type 0
IsMoreOfLine profile false text ds line fault notes = notes ≡ []
IsMoreOfLine profile true text ds line fault notes =
    (pieces : List Piece) → IsFormat (Scan profile) pieces → text ≡ text_of pieces → notes ≡ more_of_line pieces ds line fault

-- The bytes are those of these parts of a format, which stand for directives that are read as these: the notes of a record that is no
-- match, by the place where the run stopped, if that is known, and the bytes that the run left.
pub record TellsFailed (strict : Bool) (profile : Profile) (number : ℕ) (outcome : Outcome) (place : Option Place)
    (rest text notes : List ℕ) : Type 0 where
  pub pieces : List Piece
  pub own : List Directive
  pub ds : List Directive
  pub format : IsFormat (Scan profile) pieces
  pub text_is : text ≡ text_of pieces
  pub mean : MeanAll (Means profile) false 1 pieces own
  pub read : ds ≡ as_read strict own
  pub notes_are : notes ≡ failed_notes ds (told_at pieces ds outcome.at) number outcome place rest

-- nothing is said where the bytes are no format
abbrev pub SaysFailedText : Bool → Profile → ℕ → Outcome → Option Place → List ℕ → List ℕ → List ℕ → Type 0
SaysFailedText strict profile number outcome place rest text notes =
    TellsFailed strict profile number outcome place rest text notes
    ⊎ ((at : ℕ) × (why : FormatWhy) × Fault profile text at why × (notes ≡ []))

-- the notes of a record that is no match, by the word of its format
abbrev pub SaysFailed : Bool → Profile → ℕ → Outcome → Option Place → List ℕ → List ℕ → List ℕ → Type 0
SaysFailed strict profile number outcome place rest word notes =
    ((text : List ℕ) × Unescapes word text × SaysFailedText strict profile number outcome place rest text notes)
    ⊎ ((at : ℕ) × IsBadEscape word at × (notes ≡ []))

-- a word that is refused
abbrev pub SaysRefused : List ℕ → CommandFault → List ℕ → Type 0
SaysRefused refused (BadEscape name at) notes = notes ≡ escape_notes refused at
SaysRefused refused (Format fault) notes = SaysFormat fault refused notes
SaysRefused refused (PrintFormat fault) notes = SaysFormat fault refused notes
SaysRefused refused (Unprintable mismatch) notes = notes ≡ mismatch_notes mismatch
SaysRefused refused _ notes = notes ≡ []

-- this is said, or nothing, where memory for it was refused
abbrev pub MaySay : (List ℕ → Type 0) → List ℕ → Type 0
MaySay says notes = says notes ⊎ (notes ≡ [])

abbrev pub SaysMoreOfRefused : Bool → List ℕ → CommandFault → List ℕ → Type 0
SaysMoreOfRefused true refused fault notes = MaySay (SaysRefused refused fault) notes
SaysMoreOfRefused false refused fault notes = notes ≡ []

-- ---- pairs

-- the verdict on both formats, the parts of the scan format being these: why they are no pair, and the parts that face each other
abbrev pub verdict_notes : List PrintUnit → List Piece → List Directive → Option PairFault → List ℕ
verdict_notes us pieces ds None = []
verdict_notes us pieces ds (Some fault) = pair_notes us ds (told_at pieces ds fault.at) fault

abbrev pub SaysVerdict : List PrintUnit → List Piece → List Directive → List ℕ → Type 0
SaysVerdict us pieces ds notes = (verdict : Option PairFault) × IsVerdict us ds verdict × (notes ≡ verdict_notes us pieces ds verdict)

-- the same of the formats that two words spell
pub record SaysPair (profile : Profile) (print scan notes : List ℕ) : Type 0 where
  pub us : List PrintUnit
  pub prints : IsPrintWord profile print us
  pub text : List ℕ
  pub stands : Unescapes scan text
  pub pieces : List Piece
  pub ds : List Directive
  pub format : IsFormat (Scan profile) pieces
  pub text_is : text ≡ text_of pieces
  pub mean : MeanAll (Means profile) false 1 pieces ds
  pub says : SaysVerdict us pieces ds notes

-- why no scan format reads back what a word's print format prints; width: that of texts
pub record SaysAlone (profile : Profile) (width : Option ℕ) (print notes : List ℕ) : Type 0 where
  pub us : List PrintUnit
  pub prints : IsPrintWord profile print us
  pub fault : PairFault
  pub unpaired : IsUnpaired profile width us fault
  pub notes_are : notes ≡ alone_notes us fault

-- what is said of two words, if there are two
abbrev pub OfBoth : (List ℕ → List ℕ → List ℕ → Type 0) → List (List ℕ) → List ℕ → Type 0
OfBoth says (print ∷ scan ∷ []) notes = says print scan notes
OfBoth says _ notes = notes ≡ []

-- ---- orders

-- a scan is strict where the words ask for it, and nothing else
abbrev pub is_strict_of : Verb → Bool → Bool
is_strict_of verb.Scan strict = strict
is_strict_of verb strict = false

abbrev pub Explains : Bool → Profile → Option (List ℕ) → Verb → List (List ℕ) → Option Place → List ℕ → CommandFault → List ℕ → Type 0
Explains strict profile print verb texts place rest (BadEscape name at) notes =
    OfWord (λ word said. said ≡ escape_notes word at) (word_by print verb texts name) notes
Explains strict profile print verb texts place rest (Format fault) notes = OfWord (SaysFormat fault) (word_by print verb texts name.Scan)
    notes
Explains strict profile print verb texts place rest (PrintFormat fault) notes =
    OfWord (SaysFormat fault) (word_by print verb texts name.Print) notes
Explains strict profile print verb texts place rest (Record (Failed number outcome)) notes =
    OfWord (SaysFailed (is_strict_of verb strict) profile number outcome place rest) (word_by print verb texts name.Scan) notes
Explains strict profile print verb texts place rest (Record (Stalled number)) notes = notes ≡ stalled_notes place
Explains strict profile print verb texts place rest (Record (Unfit number)) notes = notes ≡ input_notes place
Explains strict profile print verb texts place rest (Record (Read number)) notes = notes ≡ input_notes place
Explains strict profile print verb texts place rest (Values fault) notes =
    OfWord (λ word said. said ≡ value_notes word fault) (value_word texts fault) notes
Explains strict profile print verb texts place rest (Pair fault) notes = OfBoth (SaysPair profile) texts notes
Explains strict profile print verb texts place rest (Unprintable mismatch) notes = notes ≡ mismatch_notes mismatch
Explains strict profile print verb texts place rest (NameCount expected got) notes = notes ≡ name_count_notes expected got
Explains strict profile print verb texts place rest _ notes = notes ≡ []

-- where there is an exit status: of a check of two formats why they are no pair, and of one why none reads it back
abbrev pub SaysClean : Profile → Option ℕ → Verb → List (List ℕ) → List ℕ → Type 0
SaysClean profile width verb.Check (print ∷ []) notes = SaysAlone profile width print notes
SaysClean profile width verb.Check texts notes = OfBoth (SaysPair profile) texts notes
SaysClean profile width _ texts notes = notes ≡ []

abbrev pub SaysOf : Bool → Profile → Option ℕ → Option (List ℕ) → Verb → List (List ℕ) → Option Place → List ℕ → Answer → List ℕ → Type 0
SaysOf strict profile width print verb texts place rest (Ok status) notes = SaysClean profile width verb texts notes
SaysOf strict profile width print verb texts place rest (Err fault) notes = Explains strict profile print verb texts place rest fault notes

-- nothing more is said where the words don't ask for it, or where memory for it was refused
abbrev pub SaysMore : Bool → Order → Option Place → List ℕ → Answer → List ℕ → Type 0
SaysMore true order place rest answer notes =
    SaysOf order.strict (grammar_of order.profile) order.width (option_map string_bytes order.print) order.verb
    (map string_bytes order.texts.items)
    place rest answer notes ⊎ (notes ≡ [])
SaysMore false order place rest answer notes = notes ≡ []
