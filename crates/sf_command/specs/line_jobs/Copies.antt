-- What a copy of the lines of an input writes, says and answers.
use Rattle.std.specs.Prelude.{◌≡◌, ◌⊎◌, ◌||◌, ℕ, Bool, List, [], ◌∷◌, Option, Some, is_some}
use Rattle.sf_format.specs.declared.directive.Profile.{Profile}
use Rattle.sf_records.specs.declared.by_lines.end.LineFault.{LineFault}
use Rattle.sf_format.specs.declared.directive.Directive.{Directive}
use Rattle.sf_format.specs.declared.unit.Unit.{Unit as PrintUnit}
use Rattle.sf_messages.specs.declared.fault.CommandFault.{CommandFault}
use Rattle.sf_messages.specs.declared.fault.CommandFault.TheVariants.{Pair}
use Rattle.sf_pair.specs.declared.fault.PairFault.{PairFault}
use Rattle.sf_pair.specs.Groups.{IsAligned}
use Rattle.sf_pair.specs.Walk.{pair_fault}
use Rattle.sf_read.specs.source.Ahead.{Ahead}
use Rattle.sf_records.specs.Copies.{copying}
use Rattle.sf_words.specs.declared.order.LineOptions.{LineOptions}
use Rattle.sf_command.specs.jobs.Answers.{Answer}
use Rattle.sf_command.specs.jobs.Checks.{IsFaultOf}
use Rattle.sf_command.specs.jobs.CopyFormats.{AreCopyFormats, AreNoCopyFormats, line_of}
use Rattle.sf_command.specs.declared.jobs.copy_formats.CopyFormats.{CopyFormats}
use Rattle.sf_command.specs.line_jobs.Lines.{RunsLines, SaysLines}

-- why the formats are no pair
abbrev pub IsUnpaired : List PrintUnit → List Directive → CommandFault → Type 0
IsUnpaired units ds fault = (why : PairFault) × (fault ≡ Pair why) × (pair_fault units ds ≡ Some why)

-- how lines are scanned: one has to be used whole where an end of the format stands for its newline
abbrev pub line_options : LineOptions → CopyFormats → LineOptions
line_options options formats = record options { whole = options.whole || is_some formats.front }

module _ {S K E : Type 0} (to_come : S → Option (List ℕ)) (read_faults : S → ℕ) (contents : K → Option (List ℕ)) (write_faults : K → ℕ)
    (said : E → Option (List ℕ)) (unsaid : E → ℕ) (file : Option (List ℕ)) (profile : Profile) (options : LineOptions) (explain : Bool)
    (limit : ℕ) where
  -- By formats that are a pair: each line is read by the format of a line, and its values are printed, if they fit the pair. What is
  -- said of a line that fails is by that format.
  abbrev pub CopiesAligned : CopyFormats → Ahead S → Ahead S → K → K → E → E → Answer → Type 0
  CopiesAligned formats from from' out out' err err' answer =
      (telling : ℕ → List ℕ → LineFault → List ℕ)
      × SaysLines file profile options.quiet explain (line_of formats).text.items (line_of formats).format telling
      × RunsLines to_come read_faults contents write_faults said unsaid (λ number ds. copying formats.print formats.scan.format)
      (line_options options formats) limit [] ((line_of formats).format ∷ []) telling from from' out out' err err' answer

  -- the formats are no pair, with nothing read, written or said; or the lines are copied
  abbrev pub CopiesPair : CopyFormats → Ahead S → Ahead S → K → K → E → E → Answer → Type 0
  CopiesPair formats from from' out out' err err' answer =
      IsFaultOf (IsUnpaired formats.print formats.scan.format) answer × (from' ≡ from) × (out' ≡ out) × (err' ≡ err)
      ⊎ IsAligned formats.print formats.scan.format × CopiesAligned formats from from' out out' err err' answer

  -- the words are no formats, with nothing read, written or said; or they are, and the lines are copied by these
  abbrev pub CopiesLines : List ℕ → List ℕ → Ahead S → Ahead S → K → K → E → E → Answer → Type 0
  CopiesLines print scan from from' out out' err err' answer =
      IsFaultOf (AreNoCopyFormats profile print scan) answer × (from' ≡ from) × (out' ≡ out) × (err' ≡ err)
      ⊎ ((formats : CopyFormats) × AreCopyFormats profile print scan formats × CopiesPair formats from from' out out' err err' answer)

  -- there are two words, the print format's and the scan format's
  abbrev pub CopiesTexts : List (List ℕ) → Ahead S → Ahead S → K → K → E → E → Answer → Type 0
  CopiesTexts (print ∷ scan ∷ []) from from' out out' err err' answer = CopiesLines print scan from from' out out' err err' answer
  CopiesTexts texts from from' out out' err err' answer = ⊥
