-- What a scan format has before a newline at its end.
use Rattle.std.proofs.Common.{◌≡◌, ◌∙◌, ◌++◌, ◌≢◌, List, ℕ, None, Some, ap, sym, subst, inl, inr}
use Rattle.std.proofs.lemmas.List.{append_cancel_right}
use Rattle.sf_format.specs.declared.directive.Directive.{Directive}
use Rattle.sf_format.specs.declared.directive.Profile.{Profile}
use Rattle.sf_format.specs.declared.fault.FormatFault.{FormatFault}
use Rattle.sf_format.specs.declared.fault.FormatWhy.TheVariants.{NoMemory}
use Rattle.sf_format.specs.Faults.{IsRefused}
use Rattle.sf_format.specs.Grammar.{Spells}
use Rattle.sf_command.specs.jobs.CopyFormats.{HasFront, IsNoFormat, newline_end}
use Rattle.sf_command.specs.declared.jobs.formats.ScanText.{ScanText}

-- a text that is refused, and not for memory, is no format
pub is_no_format : (profile : Profile) (text : List ℕ) (fault : FormatFault) → fault.why ≢ NoMemory → IsRefused profile text fault
    → IsNoFormat profile text
is_no_format profile text fault other (inl is) = (fault.at, fault.why, is)
is_no_format profile text fault other (inr (none, spelled)) = absurd (other (ap (λ (f : FormatFault). f.why) none))

-- what is before the end is one text
pub no_front : (profile : Profile) (own front : List ℕ) → own ≡ front ++ newline_end → IsNoFormat profile front
    → HasFront profile own None
no_front profile own front is none other other_is =
    subst (IsNoFormat profile) (append_cancel_right front other newline_end (sym is ∙ other_is)) none

-- the bytes before the end, which spell a format, and that format
pub has_front : (profile : Profile) (own front : List ℕ) (ds : List Directive) (scan : ScanText) → own ≡ front ++ newline_end
    → Spells profile front ds → scan.text.items ≡ front → scan.format ≡ ds → HasFront profile own (Some scan)
has_front profile own front ds scan is spells bytes format = (
  is ∙ ap (λ (t : List ℕ). t ++ newline_end) (sym bytes),
  subst (λ (t : List ℕ). Spells profile t scan.format) (sym bytes) (subst (λ (d : List Directive). Spells profile front d) (sym format)
      spells),
)
