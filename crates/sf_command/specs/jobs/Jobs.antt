-- What an order of records asks for, with its formats read.
use Rattle.std.specs.Prelude.{◌≡◌, ◌⊎◌, ℕ, Bool, false, List, [], ◌∷◌, Option, Some, None, Err, map, option_map, string_bytes}
use Rattle.sf_format.specs.declared.directive.Directive.{Directive}
use Rattle.sf_format.specs.declared.directive.Profile.{Profile}
use Rattle.sf_format.specs.declared.fault.FormatFault.{FormatFault}
use Rattle.sf_format.specs.declared.fault.FormatWhy.{FormatWhy}
use Rattle.sf_format.specs.declared.unit.Unit.{Unit as PrintUnit}
use Rattle.sf_format.specs.Faults.{Fault, IsPrintRefused, IsRefused, PrintFault}
use Rattle.sf_format.specs.Grammar.{SpellsPrint}
use Rattle.sf_pair.specs.Walk.{pair_fault}
use Rattle.sf_records.specs.form.OutputForm.{OutputForm}
use Rattle.sf_words.specs.declared.order.Order.{Order}
use Rattle.sf_words.specs.declared.order.Verb.{Verb}
use Rattle.sf_words.specs.declared.order.Verb.TheVariants as verb
use Rattle.sf_messages.specs.declared.fault.CommandFault.{CommandFault}
use Rattle.sf_messages.specs.declared.fault.CommandFault.TheVariants.{Pair}
use Rattle.sf_messages.specs.declared.fault.FormatName.TheVariants as name
use Rattle.sf_messages.specs.Faults.{format_fault, print_format_fault}
use Rattle.sf_arguments.specs.Escapes.{Unescapes}
use Rattle.sf_command.specs.jobs.Checks.{IsNoPrintWord, IsPrintWord, IsReadWord, IsUnprintable, IsVerdict, SpellsRead}
use Rattle.sf_command.specs.jobs.Commands.{IsBadText, TellsFault, form_of, grammar_of}
use Rattle.sf_command.specs.jobs.Writings.{IsWriting, Suits}
use Rattle.sf_command.specs.declared.jobs.job.Job.{Job}
use Rattle.sf_command.specs.declared.jobs.job.Job.TheVariants as job
use Rattle.sf_command.specs.declared.jobs.formats.ScanText.{ScanText}

-- ---- words that are formats, and texts without a fault

abbrev pub IsFaultless : (ℕ → FormatWhy → Type 0) → Type 0
IsFaultless has = (at : ℕ) (why : FormatWhy) → has at why → ⊥

-- the word stands for the bytes, and these spell the format, as it is read
pub record IsScan (strict : Bool) (profile : Profile) (word : List ℕ) (scan : ScanText) : Type 0 where
  pub stands : Unescapes word scan.text.items
  pub spells : SpellsRead strict profile scan.text.items scan.format
  pub faultless : IsFaultless (Fault profile scan.text.items)

pub record IsPrint (profile : Profile) (word : List ℕ) (units : List PrintUnit) : Type 0 where
  pub text : List ℕ
  pub stands : Unescapes word text
  pub spells : SpellsPrint profile text units
  pub faultless : IsFaultless (PrintFault profile text)

-- ---- words that are none

-- the bytes of the word are refused for this fault, and for no other
pub record IsRefusedScan (profile : Profile) (word : List ℕ) (fault : CommandFault) : Type 0 where
  pub text : List ℕ
  pub stands : Unescapes word text
  pub of : FormatFault
  pub refused : IsRefused profile text of
  pub is : fault ≡ format_fault of
  pub only : TellsFault (Fault profile text) format_fault (Err fault)

pub record IsRefusedPrint (profile : Profile) (word : List ℕ) (fault : CommandFault) : Type 0 where
  pub text : List ℕ
  pub stands : Unescapes word text
  pub of : FormatFault
  pub refused : IsPrintRefused profile text of
  pub is : fault ≡ print_format_fault of
  pub only : TellsFault (PrintFault profile text) print_format_fault (Err fault)

-- the word stands for no bytes, or for these
abbrev pub IsNoScan : Profile → List ℕ → CommandFault → Type 0
IsNoScan profile word fault = IsBadText name.Scan word fault ⊎ IsRefusedScan profile word fault

abbrev pub IsNoPrint : Profile → List ℕ → CommandFault → Type 0
IsNoPrint profile word fault = IsBadText name.Print word fault ⊎ IsRefusedPrint profile word fault

-- the first word is no print format; or it is one, and the second is no scan format
abbrev pub AreNoTwo : Profile → List ℕ → List ℕ → List ℕ → CommandFault → Type 0
AreNoTwo profile one other refused fault =
    (refused ≡ one) × IsNoPrintWord profile one fault
    ⊎ ((units : List PrintUnit) × IsPrintWord profile one units × ((refused ≡ other) × IsNoScan profile other fault))

-- ---- jobs

-- the job is what the words of a verb ask for; print: the word of a scan's print format, if it has one; strict: whether each conversion of
-- a scan is read as if it had !
abbrev pub IsJobBy : Bool → Profile → OutputForm → Option (List ℕ) → Job → Verb → List (List ℕ) → Type 0
IsJobBy strict profile form print (job.Show scan) verb.Show (word ∷ []) = IsScan false profile word scan
IsJobBy strict profile form print (job.Scan scan writing) verb.Scan (word ∷ []) =
    IsScan strict profile word scan × IsWriting profile form print writing × Suits writing scan.format
IsJobBy strict profile form print (job.Print units) verb.Print (word ∷ values) = IsPrint profile word units
IsJobBy strict profile form print (job.Answer units) verb.Check (word ∷ []) = IsPrintWord profile word units
IsJobBy strict profile form print (job.Check units scan verdict) verb.Check (one ∷ other ∷ []) =
    IsPrintWord profile one units × IsScan false profile other scan × IsVerdict units scan.format verdict
IsJobBy strict profile form print (job.Copy units scan) verb.Copy (one ∷ other ∷ []) =
    IsPrintWord profile one units × IsScan false profile other scan
IsJobBy strict profile form print _ _ _ = ⊥

-- The words ask for nothing that can be done, for this fault; refused: the word that is at fault, if it is one. The print format is
-- judged first, then the scan format, and then both.
abbrev pub IsNoJobBy : Bool → Profile → Verb → List (List ℕ) → Option (List ℕ) → List ℕ → CommandFault → Type 0
IsNoJobBy strict profile verb.Show (word ∷ []) print refused fault = (refused ≡ word) × IsNoScan profile word fault
IsNoJobBy strict profile verb.Scan (word ∷ []) None refused fault = (refused ≡ word) × IsNoScan profile word fault
IsNoJobBy strict profile verb.Scan (word ∷ []) (Some print) refused fault =
    (refused ≡ print) × IsNoPrintWord profile print fault
    ⊎ ((units : List PrintUnit) × IsPrintWord profile print units × ((refused ≡ word) × IsNoScan profile word fault
    ⊎ ((ds : List Directive) × IsReadWord strict profile word ds × IsUnprintable units ds fault)))
IsNoJobBy strict profile verb.Print (word ∷ values) print refused fault = (refused ≡ word) × IsNoPrint profile word fault
IsNoJobBy strict profile verb.Check (word ∷ []) print refused fault = (refused ≡ word) × IsNoPrintWord profile word fault
IsNoJobBy strict profile verb.Check (one ∷ other ∷ []) print refused fault = AreNoTwo profile one other refused fault
IsNoJobBy strict profile verb.Copy (one ∷ other ∷ []) print refused fault = AreNoTwo profile one other refused fault
IsNoJobBy strict profile _ _ print refused fault = ⊥

-- the fault that a job ends with is its own: that of its pair
abbrev pub IsOwnFault : Job → CommandFault → Type 0
IsOwnFault (job.Copy units scan) (Pair fault) = pair_fault units scan.format ≡ Some fault
IsOwnFault _ _ = Unit {0}

-- the scan format by which records are read, or which is shown or checked
abbrev pub scan_of : Job → Option ScanText
scan_of (job.Show scan) = Some scan
scan_of (job.Scan scan writing) = Some scan
scan_of (job.Check units scan verdict) = Some scan
scan_of (job.Copy units scan) = Some scan
scan_of _ = None

-- ---- orders

abbrev pub IsJob : Order → Job → Type 0
IsJob order job = IsJobBy order.strict (grammar_of order.profile) (form_of order.output) (option_map string_bytes order.print) job
    order.verb (map string_bytes order.texts.items)

abbrev pub IsNoJob : Order → List ℕ → CommandFault → Type 0
IsNoJob order refused fault = IsNoJobBy order.strict (grammar_of order.profile) order.verb (map string_bytes order.texts.items)
    (option_map string_bytes order.print) refused fault
