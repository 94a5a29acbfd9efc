-- What the words of a command ask for, as clap reads them.
use Rattle.std.specs.Prelude.{◌≡◌, ◌≢◌, ◌≤◌, ◌&&◌, ◌||◌, ℕ, Bool, true, false, not, List, [], ◌∷◌, ◌++◌, Option, Some, None, if◌then◌else◌}
use Rattle.std.specs.Prelude.{◌==◌, codes, find, map, option_and_then, option_map, string_bytes, unwrap_or}
use Rattle.std.specs.List.{list_any}
use Rattle.std.specs.Option.{option_map_or}
use Rattle.std.specs.Str.{bytes_eq}
use Rattle.std.specs.Str.Parse.{digits_value, without_leading_plus}
use Rattle.clap.specs.Kinds.{or_else}
use Rattle.clap.specs.Words.{IsAmong, Kinds, Row, Text, all_of, fault_of, first_of, one_of, subcommand_of}
use Rattle.clap.specs.declared.error.kind.ErrorKind.{ErrorKind}
use Rattle.clap.specs.declared.error.kind.ErrorKind.TheVariants as kind
use Rattle.clap.specs.declared.parser.matches.ValueSource.{ValueSource}
use Rattle.clap.specs.declared.parser.matches.ValueSource.TheVariants.{CommandLine}
use Rattle.sf_words.specs.Hyphens.{clap_words}
use Rattle.sf_words.specs.Line.{sf_app}
use Rattle.sf_words.specs.declared.order.LineOptions.{LineOptions}
use Rattle.sf_words.specs.declared.order.Notes.{Notes}
use Rattle.sf_words.specs.declared.order.Notes.TheVariants.{Always, OnTerminal, Never}
use Rattle.sf_words.specs.declared.order.Order.{Order}
use Rattle.sf_words.specs.declared.order.Output.{Output}
use Rattle.sf_words.specs.declared.order.Output.TheVariants.{Plain, Tsv, Json, Csv}
use Rattle.sf_words.specs.declared.order.Profile.{Profile}
use Rattle.sf_words.specs.declared.order.Profile.TheVariants.{One, Two, Three}
use Rattle.sf_words.specs.declared.order.Verb.{Verb}
use Rattle.sf_words.specs.declared.order.Verb.TheVariants.{Show, Scan, Print, Check, Copy}
use Rattle.sf_words.specs.declared.order.WordsFault.{WordsFault}
use Rattle.sf_words.specs.declared.order.WordsFault.TheVariants.{Help, Usage, NoMemory}

-- ---- the words are taken

-- the word for what is done
abbrev pub verb_text : Verb → Text
verb_text Show = codes "show"
verb_text Scan = codes "scan"
verb_text Print = codes "print"
verb_text Check = codes "check"
verb_text Copy = codes "copy"

-- the texts that a word, or a list of words, was given
abbrev pub values_at : Text → List Row → List Text
values_at id rows = unwrap_or (all_of id rows) []

abbrev pub is_full : List Text → Bool
is_full [] = false
is_full (text ∷ rest) = true

-- the argument was given texts
abbrev pub has_texts : Text → List Row → Bool
has_texts id rows = is_full (values_at id rows)

-- the formats of a scan: those after -e, where there are any, and else the first word
abbrev pub scan_formats : List Row → List Text
scan_formats rows = if has_texts (codes "formats") rows then values_at (codes "formats") rows else values_at (codes "FORMAT") rows

-- the first word, where it is no format
abbrev pub first_file : List Row → List Text
first_file rows = if has_texts (codes "formats") rows then values_at (codes "FORMAT") rows else []

-- the formats, and then the values
abbrev pub texts_by : Verb → List Row → List Text
texts_by Show rows = values_at (codes "FORMAT") rows
texts_by Scan rows = scan_formats rows
texts_by Print rows = values_at (codes "FORMAT") rows ++ values_at (codes "VALUES") rows
texts_by Check rows = values_at (codes "PRINT") rows ++ values_at (codes "SCAN") rows
texts_by Copy rows = values_at (codes "PRINT") rows ++ values_at (codes "SCAN") rows

-- the files: of a scan and of a copy, the words after the formats
abbrev pub files_by : Verb → List Row → List Text
files_by Scan rows = first_file rows ++ values_at (codes "FILE") rows
files_by Copy rows = values_at (codes "FILE") rows
files_by _ rows = []

-- the number that a text is
abbrev pub number_in : Text → ℕ
number_in text = digits_value 10 (without_leading_plus text)

-- the number that an option was given or has by default; a command without the option has this one
abbrev pub number_by : ℕ → Option Text → ℕ
number_by other None = other
number_by other (Some text) = number_in text

-- the number for a profile
abbrev pub profile_number : Profile → ℕ
profile_number One = 1
profile_number Two = 2
profile_number Three = 3

abbrev pub is_true : Option Text → Bool
is_true None = false
is_true (Some text) = bytes_eq text (codes "true")

-- an option without a value was given: clap makes `true` of it, and else `false`; a command without it has no text of it
abbrev pub is_set : Text → List Row → Bool
is_set name rows = is_true (one_of name rows)

-- the name of a form
abbrev pub output_text : Output → Text
output_text Plain = codes "plain"
output_text Tsv = codes "tsv"
output_text Json = codes "json"
output_text Csv = codes "csv"

-- the last of some texts, or another
abbrev pub last_text : Text → List Text → Text
last_text other [] = other
last_text other (text ∷ rest) = last_text text rest

-- the form's name that was given last, or plain
abbrev pub form_given : List Row → Text
form_given rows = last_text (codes "plain") (values_at (codes "output") rows)

-- when more is said: --explain and --no-explain say when, and else the error output does
abbrev pub notes_by : List Row → Notes
notes_by rows = if is_set (codes "explain") rows then Always else (if is_set (codes "no-explain") rows then Never else OnTerminal)

-- as many texts as the verb wants
abbrev pub HasTexts : Verb → List Text → Type 0
HasTexts Show (word ∷ []) = Unit {0}
HasTexts Scan (word ∷ []) = Unit {0}
HasTexts Print (word ∷ values) = Unit {0}
HasTexts Check (print ∷ []) = Unit {0}
HasTexts Check (print ∷ scan ∷ []) = Unit {0}
HasTexts Copy (print ∷ scan ∷ []) = Unit {0}
HasTexts _ _ = ⊥

-- the same where lines are: a scan has one format or more
abbrev pub HasTextsFor : Option LineOptions → Verb → List Text → Type 0
HasTextsFor None verb texts = HasTexts verb texts
HasTextsFor (Some options) Scan (format ∷ more) = Unit {0}
HasTextsFor (Some options) Copy (print ∷ scan ∷ []) = Unit {0}
HasTextsFor (Some options) _ _ = ⊥

-- the options of lines; where each conversion is strict, a line is used whole
pub record AreLineOptions (given : List Row) (options : LineOptions) : Type 0 where
  pub skip : options.skip ≡ number_by 0 (one_of (codes "skip") given)
  pub whole : options.whole ≡ is_set (codes "whole") given || is_set (codes "strict") given
  pub keep_going : options.keep_going ≡ is_set (codes "keep-going") given
  pub quiet : options.quiet ≡ is_set (codes "quiet") given
  pub matching : options.matching ≡ is_set (codes "matching") given

-- there are options of lines where --lines was given
abbrev pub HasLines : List Row → Option LineOptions → Type 0
HasLines given None = is_set (codes "lines") given ≡ false
HasLines given (Some options) = (is_set (codes "lines") given ≡ true) × AreLineOptions given options

-- a width, where there is one, is a number from 1 to 65535
abbrev pub IsWidth : Option ℕ → Type 0
IsWidth None = Unit {0}
IsWidth (Some width) = (1 ≤ width) × (width ≤ 65535)

-- The order is what a subcommand with these rows asks for.
pub record IsOrderOf (entered : Option (Text × List Row)) (order : Order) : Type 0 where
  pub given : List Row
  pub is_given : entered ≡ Some (verb_text order.verb, given)
  pub limit : order.limit ≡ number_by 1048576 (one_of (codes "limit") given)
  pub small : order.limit ≤ 2147483647
  pub profile : profile_number order.profile ≡ number_by 1 (one_of (codes "profile") given)
  pub line_buffered : order.line_buffered ≡ is_set (codes "line-buffered") given
  pub notes : order.notes ≡ notes_by given
  pub output : output_text order.output ≡ form_given given
  pub strict : order.strict ≡ is_set (codes "strict") given
  pub lines : HasLines given order.lines
  pub print : option_map string_bytes order.print ≡ first_of (codes "print") given
  pub names : option_map string_bytes order.names ≡ first_of (codes "names") given
  pub tag : order.tag ≡ is_set (codes "tag") given
  pub ignored : map string_bytes order.ignored.items ≡ values_at (codes "ignore") given
  pub raw : order.raw ≡ is_set (codes "raw") given
  pub width : order.width ≡ option_map number_in (one_of (codes "width") given)
  pub wide : IsWidth order.width
  pub texts : map string_bytes order.texts.items ≡ texts_by order.verb given
  pub files : map string_bytes order.files.items ≡ files_by order.verb given
  pub file : order.file ≡ None
  pub enough : HasTextsFor order.lines order.verb (map string_bytes order.texts.items)

-- The order is what clap makes of the words after the program's name, where a format that begins with a hyphen is joined to its
-- -e: the subcommand that they name, and what its arguments were given.
abbrev pub IsOrder : List Text → Order → Type 0
IsOrder words order = IsOrderOf (subcommand_of sf_app (codes "sf" ∷ clap_words words)) order

-- ---- they are refused

-- the text is the name of a form
abbrev pub is_form : Text → Bool
is_form text =
    bytes_eq text (codes "plain")
    || (bytes_eq text (codes "tsv") || (bytes_eq text (codes "json") || bytes_eq text (codes "csv")))

abbrev pub form_faults : List Row → Kinds
form_faults rows = if is_form (form_given rows) then [] else kind.InvalidValue ∷ []

-- an option was given that is one of lines
abbrev pub has_line_option : List Row → Bool
has_line_option rows =
    list_any (λ given. given)
    (is_set (codes "whole") rows
    ∷ has_texts (codes "formats") rows
    ∷ is_set (codes "keep-going") rows
    ∷ is_set (codes "quiet") rows
    ∷ is_set (codes "matching") rows
    ∷ has_texts (codes "ignore") rows
    ∷ has_texts (codes "skip") rows
    ∷ [])

-- such an option stands with --lines alone
abbrev pub line_faults : List Row → Kinds
line_faults rows = if not (is_set (codes "lines") rows) && has_line_option rows then kind.MissingRequiredArgument ∷ [] else []

-- an argument was given: its value is no default
abbrev pub is_of_words : Option ValueSource → Bool
is_of_words (Some CommandLine) = true
is_of_words _ = false

abbrev pub is_given : Text → List Row → Bool
is_given id rows = is_of_words (option_and_then (λ r. r.source) (find (λ r. bytes_eq r.id id) rows))

-- arguments that are not taken together
abbrev pub conflicts : List (Text × Text)
conflicts =
    (codes "explain", codes "no-explain")
    ∷ (codes "print", codes "output")
    ∷ (codes "print", codes "names")
    ∷ (codes "print", codes "tag")
    ∷ (codes "matching", codes "keep-going")
    ∷ (codes "matching", codes "quiet")
    ∷ (codes "width", codes "SCAN")
    ∷ []

abbrev pub are_given : List Row → Text × Text → Bool
are_given rows both = is_given both.0 rows && is_given both.1 rows

abbrev pub has_conflict : List Row → Bool
has_conflict rows = list_any (are_given rows) conflicts

abbrev pub conflict_faults : List Row → Kinds
conflict_faults rows = if has_conflict rows then kind.ArgumentConflict ∷ [] else []

-- a space (32) or a tab (9): the blanks of C11 7.4.1.3
abbrev pub is_blank : ℕ → Bool
is_blank b = (b == 32) || (b == 9)

-- one of the two bytes is a comma (44), and the other a blank
abbrev pub are_comma_and_blank : ℕ → ℕ → Bool
are_comma_and_blank a b = ((a == 44) && is_blank b) || (is_blank a && (b == 44))

-- two such bytes follow each other in the text, where this byte stands before it and a comma after it
abbrev pub has_blank_after : ℕ → Text → Bool
has_blank_after before [] = are_comma_and_blank before 44
has_blank_after before (b ∷ rest) = if are_comma_and_blank before b then true else has_blank_after b rest

-- a blank stands around a name: commas stand between names, and none before the first and after the last
abbrev pub has_blank_name : Text → Bool
has_blank_name text = has_blank_after 44 text

-- such names are refused
abbrev pub blank_faults : Option Text → Kinds
blank_faults None = []
blank_faults (Some names) = if has_blank_name names then kind.InvalidValue ∷ [] else []

-- the plain form has no names, the number of a format stands with -e alone, and no blank stands around a name
abbrev pub column_faults : List Row → Kinds
column_faults rows =
    if is_given (codes "names") rows && bytes_eq (form_given rows) (codes "plain")
    then kind.ArgumentConflict ∷ []
    else (if is_given (codes "tag") rows && not (has_texts (codes "formats") rows)
    then kind.MissingRequiredArgument ∷ []
    else blank_faults (first_of (codes "names") rows))

-- a scan has formats after -e, or a word
abbrev pub format_faults : List Row → Kinds
format_faults rows =
    if has_texts (codes "formats") rows then []
    else (if has_texts (codes "FORMAT") rows then [] else kind.MissingRequiredArgument ∷ [])

-- what is at fault in the rows of a subcommand that its definition lets pass
abbrev pub own_faults : Text → List Row → Kinds
own_faults name rows =
    or_else (form_faults rows)
    (or_else (line_faults rows)
    (or_else (conflict_faults rows)
    (or_else (column_faults rows)
    (if bytes_eq name (codes "scan") then format_faults rows else []))))

abbrev pub entered_faults : Option (Text × List Row) → Kinds
entered_faults entered = option_map_or (λ e. own_faults e.0 e.1) entered []

-- the kinds of fault in the words of an order: those that clap finds, and where it takes the words, those of the subcommand that they
-- name
abbrev pub order_faults : List Text → Kinds
order_faults words =
    or_else (fault_of sf_app (codes "sf" ∷ clap_words words)) (entered_faults (subcommand_of sf_app (codes "sf" ∷ clap_words words)))

-- the words ask for the page on formats
abbrev pub asks_formats : List Text → Bool
asks_formats (first ∷ second ∷ []) = bytes_eq first (codes "help") && bytes_eq second (codes "formats")
asks_formats _ = false

-- the kinds of fault in the words after the program's name. There are none where the words are taken.
abbrev pub faults_of : List Text → Kinds
faults_of words = if asks_formats words then kind.DisplayHelp ∷ [] else order_faults words

-- it is no fault, but asks for a text
abbrev pub is_request : ErrorKind → Bool
is_request kind.DisplayHelp = true
is_request kind.DisplayVersion = true
is_request _ = false

-- help is for what asks for a text, and usage for every other fault
abbrev pub IsRefusalOf : ErrorKind → WordsFault → Type 0
IsRefusalOf found (Help text) = is_request found ≡ true
IsRefusalOf found (Usage text) = (is_request found ≡ false) × (found ≢ kind.OutOfMemory)
IsRefusalOf found NoMemory = Unit {0}

-- Help is answered where clap finds a request, and usage where it finds another fault. Nothing is said of want of memory, which
-- can come at any words.
abbrev pub IsRefusal : Kinds → WordsFault → Type 0
IsRefusal faults (Help text) = (found : ErrorKind) × IsAmong found faults × (is_request found ≡ true)
IsRefusal faults (Usage text) = (found : ErrorKind) × IsAmong found faults × (is_request found ≡ false)
IsRefusal faults NoMemory = Unit {0}
