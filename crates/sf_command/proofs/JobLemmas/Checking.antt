-- What is answered where a word is no format, or its format no pair.
use Rattle.std.proofs.Common.{◌≡◌, ℕ, List, Option, Err, ap, refl}
use Rattle.sf_format.specs.declared.directive.Profile.{Profile}
use Rattle.sf_format.specs.declared.fault.FormatFault.{FormatFault}
use Rattle.sf_format.specs.declared.fault.FormatWhy.{FormatWhy}
use Rattle.sf_format.specs.declared.fault.FormatWhy.TheVariants.{NoMemory}
use Rattle.sf_format.specs.Faults.{IsRefused, IsPrintRefused}
use Rattle.sf_messages.specs.declared.fault.CommandFault.{CommandFault}
use Rattle.sf_messages.specs.declared.fault.CommandFault.TheVariants.{BadEscape, Format, PrintFormat, Values, Record, Lines, Write, Memory}
use Rattle.sf_messages.specs.declared.fault.CommandFault.TheVariants.{Pair, Unprintable, NameCount, NameEmpty, NameTwice}
use Rattle.sf_messages.specs.declared.fault.FormatName.TheVariants as name
use Rattle.sf_arguments.specs.answer.Answers.{IsNoFormat}
use Rattle.sf_arguments.specs.answer.Parts.{IsScanText}
use Rattle.sf_format.specs.declared.unit.Unit.{Unit as PrintUnit}
use Rattle.sf_command.specs.jobs.Checks.{IsFaultOf, IsNoAnswer, IsNoPrintWord, IsNoScanWord}
use Rattle.sf_command.specs.jobs.Commands.{Counts, IsBadText, IsUnwrittenBy}
use Rattle.sf_messages.specs.Faults.{format_fault, format_fault_by, print_format_fault, print_format_fault_by}
use Rattle.sf_arguments.specs.Escapes.{Unescapes}
use Rattle.sf_command.proofs.JobLemmas.Answering.{fault_of, is_memory, print_fault_of}

-- ---- a text that is not resolved

pub no_print_text : (profile : Profile) (word : List ℕ) (fault : CommandFault) → IsBadText name.Print word fault
    → IsNoPrintWord profile word fault
no_print_text profile word (BadEscape of at) bad = bad
no_print_text profile word Memory bad = bad
no_print_text profile word (Format fault) bad = absurd bad
no_print_text profile word (PrintFormat fault) bad = absurd bad
no_print_text profile word (Values fault) bad = absurd bad
no_print_text profile word (Record fault) bad = absurd bad
no_print_text profile word (Lines fault) bad = absurd bad
no_print_text profile word Write bad = absurd bad
no_print_text profile word (Pair fault) bad = absurd bad
no_print_text profile word (Unprintable why) bad = absurd bad
no_print_text profile word (NameCount expected got) bad = absurd bad
no_print_text profile word (NameEmpty number) bad = absurd bad
no_print_text profile word (NameTwice number) bad = absurd bad

pub no_scan_text : (profile : Profile) (word : List ℕ) (fault : CommandFault) → IsBadText name.Scan word fault
    → IsNoScanWord profile word fault
no_scan_text profile word (BadEscape of at) bad = bad
no_scan_text profile word Memory bad = bad
no_scan_text profile word (Format fault) bad = absurd bad
no_scan_text profile word (PrintFormat fault) bad = absurd bad
no_scan_text profile word (Values fault) bad = absurd bad
no_scan_text profile word (Record fault) bad = absurd bad
no_scan_text profile word (Lines fault) bad = absurd bad
no_scan_text profile word Write bad = absurd bad
no_scan_text profile word (Pair fault) bad = absurd bad
no_scan_text profile word (Unprintable why) bad = absurd bad
no_scan_text profile word (NameCount expected got) bad = absurd bad
no_scan_text profile word (NameEmpty number) bad = absurd bad
no_scan_text profile word (NameTwice number) bad = absurd bad

-- ---- a format that is refused

print_by : (profile : Profile) (word text : List ℕ) (fault : FormatFault) (why : FormatWhy) → fault.why ≡ why → Unescapes word text
    → IsPrintRefused profile text fault → IsNoPrintWord profile word (print_format_fault_by why fault)
print_by profile word text fault NoMemory is good refused = (text, good)
print_by profile word text fault _ is good refused = (text, good, print_fault_of profile text fault (ap is_memory is) refused)

pub no_print_format : (profile : Profile) (word text : List ℕ) (fault : FormatFault) → Unescapes word text
    → IsPrintRefused profile text fault → IsNoPrintWord profile word (print_format_fault fault)
no_print_format profile word text fault good refused = print_by profile word text fault fault.why refl good refused

scan_by : (profile : Profile) (word text : List ℕ) (fault : FormatFault) (why : FormatWhy) → fault.why ≡ why → Unescapes word text
    → IsRefused profile text fault → IsNoScanWord profile word (format_fault_by why fault)
scan_by profile word text fault NoMemory is good refused = (text, good)
scan_by profile word text fault _ is good refused = (text, good, fault_of profile text fault (ap is_memory is) refused)

pub no_scan_format : (profile : Profile) (word text : List ℕ) (fault : FormatFault) → Unescapes word text → IsRefused profile text fault
    → IsNoScanWord profile word (format_fault fault)
no_scan_format profile word text fault good refused = scan_by profile word text fault fault.why refl good refused

-- the text that is due is no scan format
answer_by : (profile : Profile) (width : Option ℕ) (units : List PrintUnit) (text : List ℕ) (fault : FormatFault) (why : FormatWhy)
    → fault.why ≡ why → IsScanText width units text → IsRefused profile text fault
    → IsNoAnswer profile width units (format_fault_by why fault)
answer_by profile width units text fault NoMemory is due refused = tt
answer_by profile width units text fault _ is due refused = (text, due, fault_of profile text fault (ap is_memory is) refused)

pub no_answer : (profile : Profile) (width : Option ℕ) (units : List PrintUnit) (fault : FormatFault)
    → IsNoFormat profile width units fault → IsFaultOf (IsNoAnswer profile width units) (Err (format_fault fault))
no_answer profile width units fault (text, due, refused) =
    (format_fault fault, refl, answer_by profile width units text fault fault.why refl due refused)

-- ---- nothing was written then

pub no_print_unwritten : (profile : Profile) {K : Type 0} (word : List ℕ) (fault : CommandFault) (out : K)
    → IsNoPrintWord profile word fault → IsUnwrittenBy fault out out
no_print_unwritten profile word (BadEscape of at) out refused = refl
no_print_unwritten profile word Memory out refused = refl
no_print_unwritten profile word (PrintFormat fault) out refused = refl
no_print_unwritten profile word (Format fault) out refused = refl
no_print_unwritten profile word (Values fault) out refused = absurd refused
no_print_unwritten profile word (Record fault) out refused = tt
no_print_unwritten profile word (Lines fault) out refused = absurd refused
no_print_unwritten profile word Write out refused = tt
no_print_unwritten profile word (Pair fault) out refused = refl
no_print_unwritten profile word (Unprintable why) out refused = refl
no_print_unwritten profile word (NameCount expected got) out refused = refl
no_print_unwritten profile word (NameEmpty number) out refused = refl
no_print_unwritten profile word (NameTwice number) out refused = refl

pub no_scan_unwritten : (profile : Profile) {K : Type 0} (word : List ℕ) (fault : CommandFault) (out : K) → IsNoScanWord profile word fault
    → IsUnwrittenBy fault out out
no_scan_unwritten profile word (BadEscape of at) out refused = refl
no_scan_unwritten profile word Memory out refused = refl
no_scan_unwritten profile word (PrintFormat fault) out refused = refl
no_scan_unwritten profile word (Format fault) out refused = refl
no_scan_unwritten profile word (Values fault) out refused = absurd refused
no_scan_unwritten profile word (Record fault) out refused = tt
no_scan_unwritten profile word (Lines fault) out refused = absurd refused
no_scan_unwritten profile word Write out refused = tt
no_scan_unwritten profile word (Pair fault) out refused = refl
no_scan_unwritten profile word (Unprintable why) out refused = refl
no_scan_unwritten profile word (NameCount expected got) out refused = refl
no_scan_unwritten profile word (NameEmpty number) out refused = refl
no_scan_unwritten profile word (NameTwice number) out refused = refl

pub no_print_counts : (profile : Profile) (word : List ℕ) (fault : CommandFault) (n : ℕ) → IsNoPrintWord profile word fault
    → Counts n n (Err fault)
no_print_counts profile word (BadEscape of at) n refused = refl
no_print_counts profile word Memory n refused = refl
no_print_counts profile word (PrintFormat fault) n refused = refl
no_print_counts profile word (Format fault) n refused = refl
no_print_counts profile word (Values fault) n refused = absurd refused
no_print_counts profile word (Record fault) n refused = absurd refused
no_print_counts profile word (Lines fault) n refused = absurd refused
no_print_counts profile word Write n refused = absurd refused
no_print_counts profile word (Pair fault) n refused = refl
no_print_counts profile word (Unprintable why) n refused = refl
no_print_counts profile word (NameCount expected got) n refused = refl
no_print_counts profile word (NameEmpty number) n refused = refl
no_print_counts profile word (NameTwice number) n refused = refl

pub no_scan_counts : (profile : Profile) (word : List ℕ) (fault : CommandFault) (n : ℕ) → IsNoScanWord profile word fault
    → Counts n n (Err fault)
no_scan_counts profile word (BadEscape of at) n refused = refl
no_scan_counts profile word Memory n refused = refl
no_scan_counts profile word (PrintFormat fault) n refused = refl
no_scan_counts profile word (Format fault) n refused = refl
no_scan_counts profile word (Values fault) n refused = absurd refused
no_scan_counts profile word (Record fault) n refused = absurd refused
no_scan_counts profile word (Lines fault) n refused = absurd refused
no_scan_counts profile word Write n refused = absurd refused
no_scan_counts profile word (Pair fault) n refused = refl
no_scan_counts profile word (Unprintable why) n refused = refl
no_scan_counts profile word (NameCount expected got) n refused = refl
no_scan_counts profile word (NameEmpty number) n refused = refl
no_scan_counts profile word (NameTwice number) n refused = refl
