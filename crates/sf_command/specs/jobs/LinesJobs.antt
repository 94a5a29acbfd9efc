-- What an order of lines asks for.
use Rattle.std.specs.Prelude.{◌≡◌, ◌⊎◌, ◌++◌, ◌∷◌, ℕ, Bool, List, [], Option}
use Rattle.sf_format.specs.declared.directive.Directive.{Directive}
use Rattle.sf_format.specs.declared.directive.Profile.{Profile}
use Rattle.sf_messages.specs.declared.fault.CommandFault.{CommandFault}
use Rattle.sf_records.specs.form.OutputForm.{OutputForm}
use Rattle.sf_command.specs.jobs.Checks.{IsNoScanWord, IsReadWord, IsScanWord}
use Rattle.sf_command.specs.declared.jobs.writing.Writing.{Writing}
use Rattle.sf_command.specs.jobs.Writings.{IsNoWriting, IsUnsuited, IsWriting}

-- each of the words in turn spells one of the formats, as it is read
abbrev pub AreScanWords : Bool → Profile → List (List ℕ) → List (List Directive) → Type 0
AreScanWords strict profile [] formats = formats ≡ []
AreScanWords strict profile (word ∷ words) [] = ⊥
AreScanWords strict profile (word ∷ words) (ds ∷ formats) =
    IsReadWord strict profile word ds × AreScanWords strict profile words formats

-- the first of the words that is no scan format, and why it is none
abbrev pub IsFirstRefused : Profile → List (List ℕ) → List ℕ → CommandFault → Type 0
IsFirstRefused profile [] refused fault = ⊥
IsFirstRefused profile (word ∷ words) refused fault =
    (refused ≡ word) × IsNoScanWord profile word fault ⊎ ((ds : List Directive) × IsScanWord profile word ds
    × IsFirstRefused profile words refused fault)

-- Why the words of an order of lines are refused, and which of them is at fault: the print format's word; or else the first of the
-- scan formats' words, those by which lines are passed over first; or else the print format can't print what a format gives.
abbrev pub IsRefused : Bool → Profile → OutputForm → Option (List ℕ) → List (List ℕ) → List (List ℕ) → List ℕ → CommandFault → Type 0
IsRefused strict profile form print passed words refused fault =
    IsNoWriting profile print refused fault
    ⊎ ((writing : Writing) × IsWriting profile form print writing × (IsFirstRefused profile (passed ++ words) refused fault
    ⊎ ((formats : List (List Directive)) × AreScanWords strict profile words formats × IsUnsuited writing formats fault)))

abbrev pub AreRefused : Bool → Profile → OutputForm → Option (List ℕ) → List (List ℕ) → List (List ℕ) → CommandFault → Type 0
AreRefused strict profile form print passed words fault = (refused : List ℕ)
    × IsRefused strict profile form print passed words refused fault
