-- How a scan writes its records: in a form, or by a print format.
use Rattle.std.specs.Prelude.{◌≡◌, ◌⊎◌, ℕ, List, [], ◌∷◌, Option, Some, None}
use Rattle.std.specs.List.{AllByRecursion}
use Rattle.sf_format.specs.declared.directive.Directive.{Directive}
use Rattle.sf_format.specs.declared.directive.Profile.{Profile}
use Rattle.sf_forms.specs.makers.Prints.{IsPrintable}
use Rattle.sf_messages.specs.declared.fault.CommandFault.{CommandFault}
use Rattle.sf_records.specs.form.OutputForm.{OutputForm}
use Rattle.sf_command.specs.declared.jobs.writing.Writing.{Writing}
use Rattle.sf_command.specs.declared.jobs.writing.Writing.TheVariants.{Form, Print}
use Rattle.sf_command.specs.jobs.Checks.{IsNoPrintWord, IsPrintWord, IsUnprintable}

-- ---- the word of a print format, where there is one

-- records are written in the form; or by the units that the word spells
abbrev pub IsWriting : Profile → OutputForm → Option (List ℕ) → Writing → Type 0
IsWriting profile form None (Form given) = given ≡ form
IsWriting profile form (Some word) (Print units) = IsPrintWord profile word units
IsWriting profile form _ _ = ⊥

-- the word, which is refused, is no print format, for this
abbrev pub IsNoWriting : Profile → Option (List ℕ) → List ℕ → CommandFault → Type 0
IsNoWriting profile None refused fault = ⊥
IsNoWriting profile (Some word) refused fault = (refused ≡ word) × IsNoPrintWord profile word fault

-- ---- scan formats

-- the records of the format can be written so
abbrev pub Suits : Writing → List Directive → Type 0
Suits (Form form) ds = Unit {0}
Suits (Print units) ds = IsPrintable units ds

abbrev pub IsUnsuitedBy : Writing → List Directive → CommandFault → Type 0
IsUnsuitedBy (Form form) ds fault = ⊥
IsUnsuitedBy (Print units) ds fault = IsUnprintable units ds fault

-- those of each format can; or those of the first one can't that can't
abbrev pub SuitsAll : Writing → List (List Directive) → Type 0
SuitsAll writing formats = AllByRecursion (Suits writing) formats

abbrev pub IsUnsuited : Writing → List (List Directive) → CommandFault → Type 0
IsUnsuited writing [] fault = ⊥
IsUnsuited writing (ds ∷ formats) fault = IsUnsuitedBy writing ds fault ⊎ Suits writing ds × IsUnsuited writing formats fault
