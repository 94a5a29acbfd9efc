-- The lines of a copy: its formats, and what is said of it.
use Rattle.std.proofs.Common.{◌≡◌, ◌∷◌, ℕ, Bool, true, false, List, [], Option, Some, None, Err}
use Rattle.std.proofs.Common.{inl, inr, map, option_map, refl, string_bytes, subst, sym}
use Rattle.std.specs.Prelude.{IfErr, unwrap_or}
use Rattle.sf_format.specs.declared.directive.Directive.{Directive}
use Rattle.sf_format.specs.declared.directive.Profile.{Profile}
use Rattle.sf_format.specs.Grammar.{Spells}
use Rattle.sf_records.specs.declared.by_lines.end.LineFault.{LineFault}
use Rattle.sf_records.specs.declared.by_lines.end.LinesFault.{LinesFault}
use Rattle.sf_messages.specs.declared.fault.CommandFault.{CommandFault}
use Rattle.sf_read.specs.source.Ahead.{Ahead}
use Rattle.sf_words.specs.declared.order.LineOptions.{LineOptions}
use Rattle.sf_words.specs.declared.order.Order.{Order}
use Rattle.sf_words.specs.declared.order.Verb.{Verb}
use Rattle.sf_words.specs.declared.order.Verb.TheVariants as verb
use Rattle.sf_command.specs.jobs.Answers.{Answer}
use Rattle.sf_command.specs.jobs.Commands.{grammar_of}
use Rattle.sf_command.specs.jobs.CopyFormats.{AreCopies, AreNoCopies, AreNoCopyFormats, HasFront, IsOwnUnpaired, line_of}
use Rattle.sf_command.specs.jobs.Jobs.{AreNoTwo, IsNoJobBy}
use Rattle.sf_command.specs.declared.jobs.copy_formats.CopyFormats.{CopyFormats}
use Rattle.sf_command.specs.declared.jobs.formats.ScanText.{ScanText}
use Rattle.sf_command.proofs.JobLemmas.Working.{no_scan, spelled}
use Rattle.sf_command.specs.line_jobs.Copies.{CopiesPair, CopiesTexts}
use Rattle.sf_command.specs.notes.Explains.{SaysMore, SaysMoreOfRefused, more_of_line}
use Rattle.sf_command.specs.line_jobs.Lines.{SaysLines, SomeIsSaid, answer_by, line_telling}
use Rattle.sf_command.proofs.NoteLemmas.Explaining.{more_of_none}

-- the bytes of the format by which a line is read spell it
pub line_spells : (profile : Profile) (scan : ScanText) (front : Option ScanText) → HasFront profile scan.text.items front
    → Spells profile scan.text.items scan.format
    → Spells profile (unwrap_or front scan).text.items (unwrap_or front scan).format
line_spells profile scan (Some line) (ends, spells) whole = spells
line_spells profile scan None none whole = whole

-- so that something is said of lines by it
pub said_by : (file : Option (List ℕ)) (profile : Profile) (quiet explain : Bool) (text : List ℕ) (ds : List Directive)
    → Spells profile text ds
    → (telling : ℕ → List ℕ → LineFault → List ℕ) × SaysLines file profile quiet explain text ds telling
said_by file profile quiet false text ds spells = (line_telling file quiet (λ line fault. []), refl)
said_by file profile quiet true text ds (pieces, format, text_is, mean) =
    (line_telling file quiet (more_of_line pieces ds), (pieces, format, text_is, refl))

pub some_said_by : (file : Option (List ℕ)) (profile : Profile) (quiet explain : Bool) (text : List ℕ) (ds : List Directive)
    → Spells profile text ds → SomeIsSaid file profile quiet explain text ds
some_said_by file profile quiet explain text ds spells = ∣ said_by file profile quiet explain text ds spells ∣₁

-- ---- orders

-- the format of a line is spelled
pub copies_line : (profile : Profile) (texts : List (List ℕ)) (formats : CopyFormats) → AreCopies profile texts formats
    → Spells profile (line_of formats).text.items (line_of formats).format
copies_line profile [] formats are = absurd are
copies_line profile (print ∷ []) formats are = absurd are
copies_line profile (print ∷ scan ∷ []) formats are = line_spells profile formats.scan formats.front are.front
    (spelled profile formats.scan.text.items formats.scan.format are.reads.spells)
copies_line profile (print ∷ scan ∷ next ∷ more) formats are = absurd are

-- the lines of a pair end with no fault of a pair
pub no_pair_fault : (formats : CopyFormats) (status : ℕ) (fault : Option LinesFault) (answer : Answer) → answer ≡ answer_by status fault
    → IfErr answer (IsOwnUnpaired formats)
no_pair_fault formats status None answer is = subst (λ (a : Answer). IfErr a (IsOwnUnpaired formats)) (sym is) tt
no_pair_fault formats status (Some fault) answer is = subst (λ (a : Answer). IfErr a (IsOwnUnpaired formats)) (sym is) tt

no_copy_formats : (profile : Profile) (print scan refused : List ℕ) (fault : CommandFault) → AreNoTwo profile print scan refused fault
    → AreNoCopyFormats profile print scan fault
no_copy_formats profile print scan refused fault (inl (is, none)) = inl none
no_copy_formats profile print scan refused fault (inr (units, prints, (is, none))) =
    inr (units, prints, no_scan profile scan fault none)

module _ {S K E : Type 0} (to_come : S → Option (List ℕ)) (read_faults : S → ℕ) (contents : K → Option (List ℕ)) (write_faults : K → ℕ)
    (said : E → Option (List ℕ)) (unsaid : E → ℕ) (file : Option (List ℕ)) (profile : Profile) (options : LineOptions) (explain : Bool)
    (limit : ℕ) where
  -- what is done by the formats that the words of an order spell
  pub copies_by : (texts : List (List ℕ)) (formats : CopyFormats) → AreCopies profile texts formats → (from from' : Ahead S)
      (out out' : K) (err err' : E) (answer : Answer)
      → CopiesPair to_come read_faults contents write_faults said unsaid file profile options explain limit formats from from' out out' err
      err' answer
      → CopiesTexts to_come read_faults contents write_faults said unsaid file profile options explain limit texts from from' out out' err
      err' answer
  copies_by [] formats are from from' out out' err err' answer copied = absurd are
  copies_by (print ∷ []) formats are from from' out out' err err' answer copied = absurd are
  copies_by (print ∷ scan ∷ []) formats are from from' out out' err err' answer copied = inr (formats, are, copied)
  copies_by (print ∷ scan ∷ next ∷ more) formats are from from' out out' err err' answer copied = absurd are

  -- what is done where they spell none
  pub copies_none : (texts : List (List ℕ)) (refused : List ℕ) (fault : CommandFault) → AreNoCopies profile texts refused fault
      → (from : Ahead S) (out : K) (err : E)
      → CopiesTexts to_come read_faults contents write_faults said unsaid file profile options explain limit texts from from out out err
      err (Err fault)
  copies_none [] refused fault none from out err = absurd none
  copies_none (print ∷ []) refused fault none from out err = absurd none
  copies_none (print ∷ scan ∷ []) refused fault none from out err =
      inl ((fault, refl, no_copy_formats profile print scan refused fault none), refl, refl, refl)
  copies_none (print ∷ scan ∷ next ∷ more) refused fault none from out err = absurd none

none_by : (strict : Bool) (profile : Profile) (texts : List (List ℕ)) (print : Option (List ℕ)) (refused : List ℕ) (fault : CommandFault)
    → AreNoCopies profile texts refused fault → IsNoJobBy strict profile verb.Copy texts print refused fault
none_by strict profile [] print refused fault none = absurd none
none_by strict profile (one ∷ []) print refused fault none = absurd none
none_by strict profile (one ∷ other ∷ []) print refused fault none = none
none_by strict profile (one ∷ other ∷ next ∷ more) print refused fault none = absurd none

-- what is said of a copy of which a word is refused
pub more_of_no_copies : (explain : Bool) (order : Order) → order.verb ≡ verb.Copy → (notes refused : List ℕ) (fault : CommandFault)
    → AreNoCopies (grammar_of order.profile) (map string_bytes order.texts.items) refused fault
    → SaysMoreOfRefused explain refused fault notes → SaysMore explain order None [] (Err fault) notes
more_of_no_copies explain order is notes refused fault none said = more_of_none explain order None [] notes refused fault
    (subst (λ (of : Verb). IsNoJobBy order.strict (grammar_of order.profile) of (map string_bytes order.texts.items)
    (option_map string_bytes order.print) refused fault) (sym is)
    (none_by order.strict (grammar_of order.profile) (map string_bytes order.texts.items) (option_map string_bytes order.print) refused
    fault none))
    said
