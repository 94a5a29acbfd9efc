-- What the command says and answers where it doesn't end cleanly.
use Rattle.std.specs.Prelude.{ℕ, List, [], ◌∷◌, ◌++◌, codes, Some}
use Rattle.std.specs.Fmt.{decimal}
use Rattle.sf_format.specs.declared.fault.FormatWhy.{FormatWhy}
use Rattle.sf_format.specs.Texts.{why_text}
use Rattle.sf_records.specs.by_lines.Loops as lines
use Rattle.sf_records.specs.by_lines.Texts.{lines_fault_text}
use Rattle.sf_records.specs.Records.{status_by}
use Rattle.sf_records.specs.Texts.{tool_fault_text}
use Rattle.sf_pair.specs.declared.fault.PairFault.{PairFault}
use Rattle.sf_pair.specs.Texts.{fault_text}
use Rattle.sf_arguments.specs.Names.{kind_text}
use Rattle.sf_arguments.specs.Texts.{argument_fault_text, argument_status}
use Rattle.sf_forms.specs.declared.makers.printable.PrintMismatch.{PrintMismatch}
use Rattle.sf_forms.specs.declared.makers.printable.PrintMismatch.TheVariants as mismatch
use Rattle.sf_messages.specs.Names.{name_text}
use Rattle.sf_messages.specs.declared.fault.FormatName.{FormatName}
use Rattle.sf_messages.specs.declared.fault.FormatName.TheVariants as name
use Rattle.sf_messages.specs.declared.fault.CommandFault.{CommandFault}
use Rattle.sf_messages.specs.declared.fault.CommandFault.TheVariants.{BadEscape, Format, PrintFormat, Values, Record, Lines, Write, Memory}
use Rattle.sf_messages.specs.declared.fault.CommandFault.TheVariants.{Pair, Unprintable, NameCount, NameEmpty, NameTwice}

abbrev pub format_fault_text : FormatName → FormatWhy → ℕ → List ℕ
format_fault_text name why at = codes "sf: " ++ (name_text name ++ (codes ": " ++ (why_text why ++ (codes " at " ++ decimal at))))

abbrev pub pair_fault_text : PairFault → List ℕ
pair_fault_text fault = fault_text fault

-- a value that isn't what is expected of it
abbrev pub expected_text : ℕ → List ℕ → List ℕ
expected_text at what = codes "sf: value " ++ (decimal at ++ (codes ": expected " ++ what))

abbrev pub record_text : ℕ → List ℕ → List ℕ
record_text number why = codes "sf: record " ++ (decimal number ++ (codes ": " ++ why))

-- a print format can't print what a scan format gives
abbrev pub mismatch_text : PrintMismatch → List ℕ
mismatch_text (mismatch.Count values destinations) =
    codes "sf: print format: " ++ (decimal values ++ (codes " values, the scan format gives " ++ decimal destinations))
mismatch_text (mismatch.Kinds slot print scan) =
    codes "sf: print format: value " ++ (decimal slot ++ (codes " is " ++ (kind_text print ++ (codes ", the scan format gives " ++
    kind_text scan))))

-- so many names for so many values
abbrev pub name_count_text : ℕ → ℕ → List ℕ
name_count_text expected got = codes "sf: names: expected " ++ (decimal expected ++ (codes ", got " ++ decimal got))

-- what is wrong with a name, by its number
abbrev pub name_text_at : ℕ → List ℕ → List ℕ
name_text_at number why = codes "sf: names: name " ++ (decimal number ++ why)

-- the line of a name that stands twice, by the name
abbrev pub name_twice_line : List ℕ → List ℕ
name_twice_line name = codes "sf: names: " ++ (name ++ codes " stands twice\n")

-- the line on standard error, without its newline
abbrev pub command_fault_text : CommandFault → List ℕ
command_fault_text (BadEscape name at) = codes "sf: " ++ (name_text name ++ (codes ": bad escape at " ++ decimal at))
command_fault_text (Format fault) = format_fault_text name.Scan fault.why fault.at
command_fault_text (PrintFormat fault) = format_fault_text name.Print fault.why fault.at
command_fault_text (Values fault) = argument_fault_text fault
command_fault_text (Record fault) = codes "sf: " ++ tool_fault_text fault
command_fault_text (Lines fault) = codes "sf: " ++ lines_fault_text fault
command_fault_text Write = codes "sf: write fault"
command_fault_text Memory = codes "sf: out of memory"
command_fault_text (Pair fault) = codes "sf: pair: " ++ pair_fault_text fault
command_fault_text (Unprintable mismatch) = mismatch_text mismatch
command_fault_text (NameCount expected got) = name_count_text expected got
command_fault_text (NameEmpty number) = name_text_at number (codes " is empty")
command_fault_text (NameTwice number) = name_text_at number (codes " stands twice")

-- and with it
abbrev pub error_line : CommandFault → List ℕ
error_line fault = command_fault_text fault ++ 10 ∷ []

-- the exit status
abbrev pub status_of : CommandFault → ℕ
status_of (BadEscape name at) = 2
status_of (Format fault) = 2
status_of (PrintFormat fault) = 2
status_of (Values fault) = argument_status fault
status_of (Record fault) = status_by (Some fault)
status_of (Lines fault) = lines.status_by 0 (Some fault)
status_of Write = 3
status_of Memory = 4
status_of (Pair fault) = 2
status_of (Unprintable mismatch) = 2
status_of (NameCount expected got) = 2
status_of (NameEmpty number) = 2
status_of (NameTwice number) = 2
