-- What is said after the line of a fault, where more is asked for: lines, each after two blanks.
use Rattle.std.specs.Prelude.{ℕ, ◌+◌, ◌-◌, ◌&&◌, ◌||◌, Bool, true, false, nat_eq, nat_lt, if◌then◌else◌, List}
use Rattle.std.specs.Prelude.{[], ◌∷◌, ◌++◌, drop, length, map, min}
use Rattle.std.specs.Prelude.{take, Option, Some, None, slice_get, unwrap_or, codes}
use Rattle.std.specs.Fmt.{decimal}
use Rattle.sf_format.specs.Leads.{is_strict}
use Rattle.sf_format.specs.declared.fault.FormatFault.{FormatFault}
use Rattle.sf_format.specs.declared.directive.Directive.{Directive}
use Rattle.sf_format.specs.declared.directive.Directive.TheVariants.{Conv as Conversion}
use Rattle.sf_format.specs.declared.unit.Unit.{Unit as PrintUnit}
use Rattle.sf_format.specs.declared.unit.Unit.TheVariants.{Conv}
use Rattle.sf_records.specs.declared.by_lines.end.LineFault.{LineFault}
use Rattle.sf_records.specs.declared.by_lines.end.LineFault.TheVariants.{Failed, LeftOver, TooLong, Unfit}
use Rattle.sf_pair.specs.declared.fault.PairFault.{PairFault}
use Rattle.sf_pair.specs.declared.fault.PairWhy.{PairWhy}
use Rattle.sf_pair.specs.declared.fault.PairWhy.TheVariants as why
use Rattle.sf_run.specs.outcome.Ending.{Ending}
use Rattle.sf_run.specs.outcome.Ending.TheVariants.{End}
use Rattle.sf_run.specs.outcome.Outcome.{Outcome}
use Rattle.sf_run.specs.outcome.Status.{Status}
use Rattle.sf_run.specs.outcome.Status.TheVariants.{MatchingFailure, OutOfRange}
use Rattle.sf_messages.specs.declared.places.place.Place.{Place}
use Rattle.sf_records.specs.Quotes.{quoted}
use Rattle.sf_messages.specs.declared.fault.FormatName.{FormatName}
use Rattle.sf_messages.specs.declared.fault.FormatName.TheVariants as name
use Rattle.sf_messages.specs.shown.Cures.{width_cure}
use Rattle.sf_messages.specs.Columns.{failed_column, is_after_space, space_sentence, whole_text}
use Rattle.sf_messages.specs.Facing.{faced, unit_text}
use Rattle.sf_messages.specs.Names.{name_text}
use Rattle.sf_messages.specs.Newlines.{is_left_white, is_lone_newline, is_newline_taken, is_over_newline, is_white_first}
use Rattle.sf_arguments.specs.declared.argument_fault.ArgumentFault.{ArgumentFault}
use Rattle.sf_arguments.specs.declared.argument_fault.ArgumentFault.TheVariants as argument
use Rattle.sf_base.specs.declared.values.Kind.{Kind}
use Rattle.sf_base.specs.declared.values.Kind.TheVariants as kind
use Rattle.sf_arguments.specs.Names.{kind_text}
use Rattle.sf_format.specs.declared.unit.PrintConv.{PrintConv}
use Rattle.sf_format.specs.declared.unit.PrintLetter.{PrintLetter}
use Rattle.sf_format.specs.declared.unit.PrintLetter.TheVariants.{Float}
use Rattle.sf_forms.specs.declared.makers.printable.PrintMismatch.{PrintMismatch}
use Rattle.sf_forms.specs.declared.makers.printable.PrintMismatch.TheVariants as mismatch
use Rattle.sf_messages.specs.Mistakes.{begins_marked, begins_wide, byte_after_text, is_carriage, is_class, is_cut}
use Rattle.sf_messages.specs.Sentences.{byte_mark_sentence, carriage_sentence, class_sentence, printed_by_text, raw_sentence, read_by_text}
use Rattle.sf_messages.specs.Sentences.{text_front, wanted_text, wide_text_sentence}
use Rattle.sf_messages.specs.Sentences.{escape_sentence, left_white_sentence, lone_newline_sentence, newline_taken_sentence, no_value_text}
use Rattle.sf_messages.specs.Sentences.{over_newline_sentence, pair_sentence, range_text, typed_escape, typed_text, values_text}
use Rattle.sf_messages.specs.Sentences.{names_text, one_word_sentence, shell_sentence, stalled_sentence, width_option_text}
use Rattle.sf_messages.specs.Sentences.{white_first_sentence, why_sentence}
use Rattle.sf_messages.specs.Strict.{barred_sentence, is_barred_there, is_prefix_left, is_prefix_there, strict_prefix_sentence}
use Rattle.sf_messages.specs.Strict.{strict_text}

-- a line of its own
abbrev pub note : List ℕ → List ℕ
note text = codes "  " ++ (text ++ 10 ∷ [])

-- a blank for each byte
abbrev pub blanks : List ℕ → List ℕ
blanks bytes = map (λ b. 32) bytes

-- the text between quotes, and a line with a caret under the byte at this place, or after the last one
abbrev pub place_notes : List ℕ → ℕ → List ℕ
place_notes text at =
    codes "  " ++ (quoted text ++ (codes "\n " ++ (blanks (quoted (take (min at (length text)) text)) ++ codes "^\n")))

-- ---- formats

-- a bad escape of a word
abbrev pub escape_notes : List ℕ → ℕ → List ℕ
escape_notes word at = note (typed_escape (drop (at + 1) word) ++ escape_sentence) ++ place_notes word at

-- what helps where a shell took a part of a format
abbrev pub shell_notes : List ℕ → FormatFault → List ℕ
shell_notes text fault = if is_cut text fault then note shell_sentence else []

-- a format that is refused, by its bytes
abbrev pub format_notes : List ℕ → FormatFault → List ℕ
format_notes text fault =
    let b = unwrap_or (slice_get text fault.at) 0 in
    note (typed_text fault.why b ++ why_sentence fault.why b (drop (fault.at + 1) text))
    ++ (place_notes text fault.at ++ shell_notes text fault)

-- ---- values

-- a value that isn't what is expected of it, by its number
abbrev pub value_note : ℕ → List ℕ → List ℕ → List ℕ
value_note at word why = note (codes "value " ++ (decimal at ++ (codes ": " ++ (quoted word ++ why))))

-- there are not as many words as a format has values, by the word of the format
abbrev pub count_notes : List ℕ → ℕ → ℕ → List ℕ
count_notes format expected got =
    note (quoted format ++ (codes " takes " ++ (decimal expected ++ (values_text expected ++ (codes ", not " ++ decimal got)))))

-- a bad escape of a value, which may be taken as it stands
abbrev pub raw_notes : List ℕ → ℕ → List ℕ
raw_notes word at = escape_notes word at ++ note raw_sentence

-- a print format that can't print what a scan format gives: which directive reads the one kind, and which conversion prints the other
abbrev pub mismatch_notes : PrintMismatch → List ℕ
mismatch_notes (mismatch.Kinds slot print scan) =
    note (kind_text print ++ (codes " is read by " ++ (read_by_text print ++ (codes ", and "
    ++ (kind_text scan ++ (codes " is printed by " ++ printed_by_text scan))))))
mismatch_notes (mismatch.Count values destinations) = []

-- a word that is no value of a print format; where the number of words is wrong, the word of the format
abbrev pub value_notes : List ℕ → ArgumentFault → List ℕ
value_notes word (argument.NotInKind at kind) = value_note at word (no_value_text kind ++ range_text kind)
value_notes word (argument.NotOneByte at) = value_note at word (codes " is not one byte")
value_notes word (argument.BadEscape at offset) = raw_notes word offset
value_notes word (argument.WrongCount expected got) = count_notes word expected got
value_notes word fault = []

-- ---- pairs

-- a part of a format, with its number
abbrev pub part_note : FormatName → ℕ → List ℕ → List ℕ
part_note name number shown = note (name_text name ++ (codes ", directive " ++ (decimal number ++ (codes ": " ++ shown))))

-- a format has no part there
abbrev pub end_note : FormatName → List ℕ
end_note name = note (codes "the " ++ (name_text name ++ codes " ends there"))

-- the directive with this number, which is told so, if there is one
abbrev pub scan_side : List Directive → ℕ → List ℕ → List ℕ
scan_side ds number told = if nat_lt (length ds) number then end_note name.Scan else part_note name.Scan number told

-- the first of the units that are left, with its number among all
abbrev pub print_side : List PrintUnit → List PrintUnit → List ℕ
print_side us [] = end_note name.Print
print_side us (u ∷ rest) = part_note name.Print (length us - length rest) (unit_text u)

-- what to write where the kinds of two floats differ
abbrev pub float_cure : Kind → Kind → List ℕ
float_cure kind.F64 kind.F32 = codes ": the scan format has f32, write %lf"
float_cure _ _ = []

abbrev pub is_float : PrintLetter → Bool
is_float (Float style upper) = true
is_float letter = false

-- a float with # or with zeros in front: a `.` or an `x` after it would be read back, and is refused all the same
abbrev pub is_excepted : PrintConv → Bool
is_excepted c = is_float c.letter && (c.alt || c.zero)

abbrev pub exception_text : PrintConv → List ℕ
exception_text c =
    if is_excepted c then codes "; before . x X a float with # or with zeros in front is refused, though it reads back" else []

-- what to write, by the units that are left there and the directive that faces them
abbrev pub cure_of : PairWhy → List PrintUnit → Option Directive → List ℕ
cure_of why.NoWidth (Conv c ∷ rest) directive = width_cure c
cure_of why.RunsOn (Conv c ∷ rest) directive = exception_text c
cure_of why.KindDiffers (Conv c ∷ rest) (Some (Conversion scan)) = float_cure c.kind scan.kind
cure_of _ _ _ = []

-- why a pair is refused, and the directive at the fault, which is told so, with the unit that faces it; a pair without a value
-- is at fault nowhere
abbrev pub pair_notes : List PrintUnit → List Directive → List ℕ → PairFault → List ℕ
pair_notes us ds told fault =
    note (pair_sentence fault.why ++ cure_of fault.why (faced ds us fault.at) (slice_get ds (fault.at - 1)))
    ++ (if nat_eq fault.at 0 then [] else scan_side ds fault.at told ++ print_side us (faced ds us fault.at))

-- what to write where no scan format reads a print format back, by the units that are left at the fault
abbrev pub alone_cure : PairWhy → List PrintUnit → List ℕ
alone_cure why.NoWidth left = width_option_text
alone_cure why.RunsOn (Conv c ∷ rest) = exception_text c
alone_cure _ _ = []

-- why that is so, and the unit at the fault: the format that was due has a directive for each unit
abbrev pub alone_notes : List PrintUnit → PairFault → List ℕ
alone_notes us fault =
    note (pair_sentence fault.why ++ alone_cure fault.why (drop (fault.at - 1) us))
    ++ ((if nat_eq fault.at 0 then [] else print_side us (drop (fault.at - 1) us)) ++ note one_word_sentence)

-- ---- names

-- letters with commas between them
abbrev pub sample_names : List ℕ
sample_names = codes "a,b,c,d,e,f,g,h,i,j,k,l,m,n,o,p,q,r,s,t,u,v,w,x,y,z,A,B,C,D,E,F"

-- so many of them, which are all that a format can have
abbrev pub names_sample : ℕ → List ℕ
names_sample count = take (min (count + count - 1) 63) sample_names

-- how many names there are, and how many values
abbrev pub counted_names : ℕ → List ℕ
counted_names count = decimal count ++ names_text count

abbrev pub counted_values : ℕ → List ℕ
counted_values count = decimal count ++ values_text count

-- so many names are to be written, such as these
abbrev pub named_cure : ℕ → List ℕ → List ℕ
named_cure count sample = codes ": write " ++ (counted_names count ++ (codes ", as --names " ++ sample))

-- which names to write for so many values
abbrev pub names_cure : ℕ → List ℕ
names_cure expected = if nat_eq expected 0 then codes ": leave --names out" else named_cure expected (names_sample expected)

-- there are not as many names as a format gives values
abbrev pub name_count_notes : ℕ → ℕ → List ℕ
name_count_notes expected got =
    note (codes "--names has " ++ (counted_names got ++ (codes ", and a format gives " ++ (counted_values expected
    ++ names_cure expected))))

-- ---- records

-- the place in the input where the run stopped, where it is known
abbrev pub input_notes : Option Place → List ℕ
input_notes None = []
input_notes (Some place) =
    note (codes "at line " ++ (decimal place.line ++ (codes ", column " ++ (decimal place.column ++ codes " of the input"))))

-- a record that took nothing
abbrev pub stalled_notes : Option Place → List ℕ
stalled_notes place = input_notes place ++ note stalled_sentence

-- the first of some bytes, at most 24, after these words
abbrev pub byte_notes : List ℕ → List ℕ → List ℕ
byte_notes words bytes = if nat_eq (length bytes) 0 then [] else note (words ++ quoted (take (min (length bytes) 24) bytes))

-- the bytes that the run left
abbrev pub rest_notes : List ℕ → List ℕ
rest_notes rest = byte_notes (codes "there stood ") rest

-- where the run stopped, by the bytes that it left
abbrev pub stood_notes : Option Ending → List ℕ → List ℕ
stood_notes (Some End) rest = note (codes "the input ended there")
stood_notes met rest = rest_notes rest

-- a line that begins with a directive's number: these words after it, and then the others
abbrev pub numbered_note : ℕ → List ℕ → List ℕ → List ℕ
numbered_note number words shown = note (codes "directive " ++ (decimal number ++ (words ++ shown)))

-- the directive with this number
abbrev pub directive_note : ℕ → List ℕ → List ℕ
directive_note number shown = numbered_note number (codes ": ") shown

-- which numbers the directive with this number takes
abbrev pub wanted_note : ℕ → List ℕ → List ℕ
wanted_note number range = numbered_note number (codes " wants a number from ") range

-- the same, by its kind, where it is a conversion
abbrev pub range_note : ℕ → Option Directive → List ℕ
range_note number (Some (Conversion c)) = wanted_note number (wanted_text c.kind)
range_note number directive = []

-- what the directive with this number wants
abbrev pub wants_note : ℕ → List ℕ → List ℕ
wants_note number what = numbered_note number (codes " wants ") what

-- the same, where it is a conversion with !
abbrev pub strict_note : ℕ → Option Directive → List ℕ
strict_note number (Some (Conversion c)) =
    if is_strict c.shape then wants_note number (strict_text c.shape ++ whole_text c.column) else []
strict_note number directive = []

-- what the directive wants at which a run ended so: which numbers, where it met one out of its range
abbrev pub wanted_by : Status → ℕ → Option Directive → List ℕ
wanted_by OutOfRange number directive = range_note number directive
wanted_by MatchingFailure number directive = strict_note number directive
wanted_by status number directive = []

abbrev pub wanted_notes : List Directive → Outcome → List ℕ
wanted_notes ds outcome = wanted_by outcome.status outcome.at (slice_get ds (outcome.at - 1))

-- what helps where white space stands in front of a record, or a newline in it, or what a conversion with ! doesn't take
abbrev pub white_notes : List Directive → ℕ → Outcome → Option Place → List ℕ → List ℕ
white_notes ds number outcome place rest =
    if is_left_white number outcome rest then note left_white_sentence
    else if is_barred_there ds outcome rest then note (barred_sentence rest)
    else if is_prefix_there ds outcome rest then note strict_prefix_sentence
    else if is_white_first outcome rest then note white_first_sentence
    else if is_lone_newline number outcome place then note lone_newline_sentence
    else if is_newline_taken ds number outcome place then note newline_taken_sentence
    else if is_over_newline outcome place then note over_newline_sentence else []

-- the set that stops at this byte
abbrev pub stop_note : ℕ → List ℕ
stop_note b = note (text_front ++ quoted (37 ∷ 91 ∷ 94 ∷ b ∷ 93 ∷ []))

-- what helps where a format stands for something else than it seems to, or an input does
abbrev pub cure_by : Option ℕ → List Directive → ℕ → Outcome → Option Place → List ℕ → List ℕ
cure_by (Some b) ds number outcome place rest = stop_note b
cure_by None ds number outcome place rest =
    if is_class ds outcome.at then note class_sentence
    else if begins_marked rest then note byte_mark_sentence
    else if begins_wide rest then note wide_text_sentence
    else white_notes ds number outcome place rest

abbrev pub cure_notes : List Directive → ℕ → Outcome → Option Place → List ℕ → List ℕ
cure_notes ds number outcome place rest = cure_by (byte_after_text ds outcome.at) ds number outcome place rest

-- the bytes of the column at which a run failed, where they are known: a column has one at least
abbrev pub column_notes : List ℕ → List ℕ
column_notes column = if nat_eq (length column) 0 then [] else note (codes "the column has " ++ quoted column)

-- what helps where the format has white space before that column
abbrev pub space_notes : List Directive → Outcome → List ℕ
space_notes ds outcome = if is_after_space ds outcome then note space_sentence else []

-- a run that is no match of the format with these directives, where the one at which it failed is shown so, by the number of its
-- record and the bytes of that column
abbrev pub run_notes : List Directive → List ℕ → ℕ → Outcome → List ℕ → Option Place → List ℕ → List ℕ
run_notes ds shown number outcome column place rest =
    directive_note outcome.at shown
    ++ (wanted_notes ds outcome
    ++ (column_notes column
    ++ (input_notes place
    ++ (stood_notes outcome.met rest ++ (cure_notes ds number outcome place rest ++ space_notes ds outcome)))))

-- a record that is no match: its bytes are gone
abbrev pub failed_notes : List Directive → List ℕ → ℕ → Outcome → Option Place → List ℕ → List ℕ
failed_notes ds shown number outcome place rest = run_notes ds shown number outcome [] place rest

-- ---- lines

-- the bytes of a line after so many
abbrev pub line_rest : List ℕ → ℕ → List ℕ
line_rest line used = drop (min used (length line)) line

-- what helps where a format left these bytes of a line
abbrev pub left_cure : List Directive → List ℕ → List ℕ
left_cure ds rest =
    if is_carriage rest then note carriage_sentence else (if is_prefix_left ds rest then note strict_prefix_sentence else [])

-- the bytes, and what helps
abbrev pub left_notes : List Directive → List ℕ → List ℕ
left_notes ds rest = rest_notes rest ++ left_cure ds rest

-- A line of an input that is no match, by what was read of it, where its directive is shown so: what is said of a run that had
-- the line alone for its input, but for the place, and the bytes of the column at which it failed; the bytes that the run left; or
-- what the line begins with, where it is longer than the limit.
abbrev pub line_notes : List Directive → List ℕ → List ℕ → LineFault → List ℕ
line_notes ds shown line (Failed outcome) =
    run_notes ds shown 1 outcome (failed_column ds outcome line) None (line_rest line outcome.used)
line_notes ds shown line (LeftOver at) = left_notes ds (line_rest line at)
line_notes ds shown line TooLong = byte_notes (codes "it begins with ") line
line_notes ds shown line Unfit = []
