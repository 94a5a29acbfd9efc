-- What a check of two formats answers, and what it writes.
use Rattle.std.specs.Prelude.{◌≡◌, ◌⊎◌, ℕ, Bool, true, false, List, [], ◌∷◌, ◌++◌, Option, Some, None, Ok, Err, codes, map}
use Rattle.std.specs.Io.KnownBytes.{Appends}
use Rattle.sf_format.specs.declared.directive.Directive.{Directive}
use Rattle.sf_format.specs.declared.directive.Profile.{Profile}
use Rattle.sf_format.specs.declared.unit.Unit.{Unit as PrintUnit}
use Rattle.sf_format.specs.Faults.{Fault, PrintFault}
use Rattle.sf_format.specs.Grammar.{Spells, SpellsPrint}
use Rattle.sf_format.specs.Strictness.{strictly}
use Rattle.sf_forms.specs.declared.makers.printable.PrintMismatch.{PrintMismatch}
use Rattle.sf_forms.specs.makers.Prints.{IsMismatch}
use Rattle.sf_pair.specs.declared.fault.PairFault.{PairFault}
use Rattle.sf_pair.specs.Groups.{IsAligned}
use Rattle.sf_pair.specs.Walk.{pair_fault}
use Rattle.sf_messages.specs.Texts.{pair_fault_text}
use Rattle.sf_records.specs.Judging.{TakesPart}
use Rattle.sf_messages.specs.declared.fault.CommandFault.{CommandFault}
use Rattle.sf_messages.specs.declared.fault.CommandFault.TheVariants.{BadEscape, Format, PrintFormat, Write, Memory, Unprintable}
use Rattle.sf_messages.specs.declared.fault.FormatName.TheVariants as name
use Rattle.sf_command.specs.jobs.Answers.{Answer}
use Rattle.sf_arguments.specs.Escapes.{IsBadEscape, Unescapes}
use Rattle.sf_arguments.specs.answer.Answers.{IsUnpaired, ReadsBack}
use Rattle.sf_arguments.specs.answer.Escaped.{escaped}
use Rattle.sf_arguments.specs.answer.Parts.{IsScanText}

-- ---- formats as words

-- the word's bytes, its escapes resolved, spell these units
abbrev pub IsPrintWord : Profile → List ℕ → List PrintUnit → Type 0
IsPrintWord profile word units = (text : List ℕ) × Unescapes word text × SpellsPrint profile text units

abbrev pub IsScanWord : Profile → List ℕ → List Directive → Type 0
IsScanWord profile word ds = (text : List ℕ) × Unescapes word text × Spells profile text ds

-- the directives of a scan's format as they are read: where the words ask for it, each conversion as if it had !
abbrev pub as_read : Bool → List Directive → List Directive
as_read false ds = ds
as_read true ds = map strictly ds

-- the text spells directives that are read as these
abbrev pub SpellsRead : Bool → Profile → List ℕ → List Directive → Type 0
SpellsRead strict profile text ds = (own : List Directive) × Spells profile text own × (ds ≡ as_read strict own)

-- the same of a word's bytes
abbrev pub IsReadWord : Bool → Profile → List ℕ → List Directive → Type 0
IsReadWord strict profile word ds = (text : List ℕ) × Unescapes word text × SpellsRead strict profile text ds

-- why a word is no print format: its escapes come before its format; want of memory is told of one without a bad escape
abbrev pub IsNoPrintWord : Profile → List ℕ → CommandFault → Type 0
IsNoPrintWord profile word (BadEscape of at) = (of ≡ name.Print) × IsBadEscape word at
IsNoPrintWord profile word (PrintFormat fault) = (text : List ℕ) × Unescapes word text × PrintFault profile text fault.at fault.why
IsNoPrintWord profile word Memory = (text : List ℕ) × Unescapes word text
IsNoPrintWord profile word _ = ⊥

abbrev pub IsNoScanWord : Profile → List ℕ → CommandFault → Type 0
IsNoScanWord profile word (BadEscape of at) = (of ≡ name.Scan) × IsBadEscape word at
IsNoScanWord profile word (Format fault) = (text : List ℕ) × Unescapes word text × Fault profile text fault.at fault.why
IsNoScanWord profile word Memory = (text : List ℕ) × Unescapes word text
IsNoScanWord profile word _ = ⊥

-- ---- verdicts

-- accepted, or refused for this
abbrev pub verdict_text : Option PairFault → List ℕ
verdict_text None = codes "accepted"
verdict_text (Some fault) = codes "refused: " ++ pair_fault_text fault

abbrev pub verdict_status : Option PairFault → ℕ
verdict_status None = 0
verdict_status (Some fault) = 1

-- the formats are aligned, or the fault is the first of the walk over both
abbrev pub IsVerdict : List PrintUnit → List Directive → Option PairFault → Type 0
IsVerdict units ds None = IsAligned units ds
IsVerdict units ds (Some fault) = pair_fault units ds ≡ Some fault

-- a line with this status, or the sink failed within it
abbrev pub TellsLine : List ℕ → ℕ → Option (List ℕ) → Option (List ℕ) → Answer → Type 0
TellsLine text status before after (Ok n) = Appends before after (text ++ 10 ∷ []) × (n ≡ status)
TellsLine text status before after (Err Write) = TakesPart before after (text ++ 10 ∷ [])
TellsLine text status before after (Err _) = ⊥

-- the verdict on the formats is told in a line
abbrev pub Checks : List PrintUnit → List Directive → Option (List ℕ) → Option (List ℕ) → Answer → Type 0
Checks units ds before after answer =
    (verdict : Option PairFault) × IsVerdict units ds verdict × TellsLine (verdict_text verdict)
    (verdict_status verdict) before after answer

abbrev pub IsFaultOf : (CommandFault → Type 0) → Answer → Type 0
IsFaultOf P answer = (fault : CommandFault) × (answer ≡ Err fault) × P fault

-- The first word is no print format; or it is one, and the second is no scan format; or the verdict on both is told.
abbrev pub ChecksWords : Profile → List ℕ → List ℕ → Option (List ℕ) → Option (List ℕ) → Answer → Type 0
ChecksWords profile print scan before after answer =
    IsFaultOf (IsNoPrintWord profile print) answer
    ⊎ ((units : List PrintUnit) × IsPrintWord profile print units
    × (IsFaultOf (IsNoScanWord profile scan) answer ⊎ ((ds : List Directive) × IsScanWord profile scan ds
    × Checks units ds before after answer)))

-- ---- prints of what is scanned

-- the print format can't print what the scan format gives, for this
abbrev pub IsUnprintable : List PrintUnit → List Directive → CommandFault → Type 0
IsUnprintable units ds fault = (why : PrintMismatch) × IsMismatch units ds why × (fault ≡ Unprintable why)

-- ---- the scan format that reads a print format back

-- the text that is due to read the units is no scan format, for this; or memory was refused
abbrev pub IsNoAnswer : Profile → Option ℕ → List PrintUnit → CommandFault → Type 0
IsNoAnswer profile width units (Format fault) = (text : List ℕ) × IsScanText width units text × Fault profile text fault.at fault.why
IsNoAnswer profile width units Memory = Unit {0}
IsNoAnswer profile width units _ = ⊥

-- The scan format that reads back what is printed by the units is told in a line, as a word; or, where the text that is due is no
-- pair with them, the fault; or that text is no scan format, and nothing was written.
abbrev pub AnswersUnits : Profile → Option ℕ → List PrintUnit → Option (List ℕ) → Option (List ℕ) → Answer → Type 0
AnswersUnits profile width units before after answer =
    ((text : List ℕ) × IsScanText width units text × ReadsBack profile units text × TellsLine (escaped text) 0 before after answer)
    ⊎ ((fault : PairFault) × IsUnpaired profile width units fault × TellsLine (verdict_text (Some fault)) 1 before after answer)
    ⊎ IsFaultOf (IsNoAnswer profile width units) answer

-- the word is no print format; or it is one, and the answer to it is told
abbrev pub AnswersWord : Profile → Option ℕ → List ℕ → Option (List ℕ) → Option (List ℕ) → Answer → Type 0
AnswersWord profile width print before after answer =
    IsFaultOf (IsNoPrintWord profile print) answer
    ⊎ ((units : List PrintUnit) × IsPrintWord profile print units × AnswersUnits profile width units before after answer)
