-- The formats of a copy of lines. A line has no newline (C11 7.21.2p2, and fgets of 7.21.7.2 without it), so that an end of the scan
-- format that reads one stands for that of the line.
use Rattle.std.specs.Prelude.{◌≡◌, ◌⊎◌, ◌++◌, ◌∷◌, [], ℕ, false, List, Option, Some, None, codes, unwrap_or}
use Rattle.sf_format.specs.declared.directive.Profile.{Profile}
use Rattle.sf_format.specs.declared.fault.FormatWhy.{FormatWhy}
use Rattle.sf_format.specs.declared.unit.Unit.{Unit as PrintUnit}
use Rattle.sf_format.specs.Faults.{Fault}
use Rattle.sf_format.specs.Grammar.{Spells}
use Rattle.sf_pair.specs.Walk.{pair_fault}
use Rattle.sf_messages.specs.declared.fault.CommandFault.{CommandFault}
use Rattle.sf_messages.specs.declared.fault.CommandFault.TheVariants.{Pair}
use Rattle.sf_command.specs.declared.jobs.copy_formats.CopyFormats.{CopyFormats}
use Rattle.sf_command.specs.jobs.Checks.{IsNoPrintWord, IsNoScanWord, IsPrintWord}
use Rattle.sf_command.specs.jobs.Jobs.{AreNoTwo, IsScan}
use Rattle.sf_command.specs.declared.jobs.formats.ScanText.{ScanText}

-- the end of a scan format that reads a newline and stores nothing
abbrev pub newline_end : List ℕ
newline_end = codes "%*1[\n]"

-- the text is no scan format
abbrev pub IsNoFormat : Profile → List ℕ → Type 0
IsNoFormat profile text = (at : ℕ) × (why : FormatWhy) × Fault profile text at why

-- what the format of these bytes has before such an end; None where it doesn't end so, or what is before that is no format
abbrev pub HasFront : Profile → List ℕ → Option ScanText → Type 0
HasFront profile own (Some front) = (own ≡ front.text.items ++ newline_end) × Spells profile front.text.items front.format
HasFront profile own None = (front : List ℕ) → own ≡ front ++ newline_end → IsNoFormat profile front

-- A line is read by what is before such an end, where there is one; else by the format as it is.
abbrev pub line_of : CopyFormats → ScanText
line_of formats = unwrap_or formats.front formats.scan

-- two words spell the formats: the first is a print format, the second a scan format
pub record AreCopyFormats (profile : Profile) (print scan : List ℕ) (formats : CopyFormats) : Type 0 where
  pub prints : IsPrintWord profile print formats.print
  pub reads : IsScan false profile scan formats.scan
  pub front : HasFront profile formats.scan.text.items formats.front

-- the first word is no print format; or it is one, and the second is no scan format
abbrev pub AreNoCopyFormats : Profile → List ℕ → List ℕ → CommandFault → Type 0
AreNoCopyFormats profile print scan fault =
    IsNoPrintWord profile print fault ⊎ ((units : List PrintUnit) × IsPrintWord profile print units × IsNoScanWord profile scan fault)

-- the fault of a pair is that of these formats
abbrev pub IsOwnUnpaired : CopyFormats → CommandFault → Type 0
IsOwnUnpaired formats (Pair why) = pair_fault formats.print formats.scan.format ≡ Some why
IsOwnUnpaired formats _ = Unit {0}

-- two words spell the formats; or they don't, for this, and refused is the word that is at fault
abbrev pub AreCopies : Profile → List (List ℕ) → CopyFormats → Type 0
AreCopies profile (print ∷ scan ∷ []) formats = AreCopyFormats profile print scan formats
AreCopies profile _ formats = ⊥

abbrev pub AreNoCopies : Profile → List (List ℕ) → List ℕ → CommandFault → Type 0
AreNoCopies profile (print ∷ scan ∷ []) refused fault = AreNoTwo profile print scan refused fault
AreNoCopies profile _ refused fault = ⊥
