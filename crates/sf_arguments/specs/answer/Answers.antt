-- What is answered for a print format: the text of a scan format that reads it back, or why there is none.
use Rattle.std.specs.Prelude.{ℕ, ◌≡◌, List, Option, Some}
use Rattle.sf_format.specs.declared.directive.Directive.{Directive}
use Rattle.sf_format.specs.declared.directive.Profile.{Profile}
use Rattle.sf_format.specs.declared.fault.FormatFault.{FormatFault}
use Rattle.sf_format.specs.declared.unit.Unit.{Unit as PrintUnit}
use Rattle.sf_format.specs.Grammar.{Spells}
use Rattle.sf_format.specs.Faults.{IsRefused}
use Rattle.sf_pair.specs.declared.fault.PairFault.{PairFault}
use Rattle.sf_pair.specs.Groups.{IsAligned}
use Rattle.sf_pair.specs.Walk.{pair_fault}
use Rattle.sf_arguments.specs.answer.Parts.{IsScanText}

-- the text is a scan format that reads back what is printed by the units
abbrev pub ReadsBack : Profile → List PrintUnit → List ℕ → Type 0
ReadsBack profile us text = (ds : List Directive) × Spells profile text ds × IsAligned us ds

-- the text that is due is a scan format, which has this fault with the units
abbrev pub IsUnpaired : Profile → Option ℕ → List PrintUnit → PairFault → Type 0
IsUnpaired profile width us fault =
    (text : List ℕ) × (ds : List Directive) × IsScanText width us text × Spells profile text ds × (pair_fault us ds ≡ Some fault)

-- the text that is due is no scan format, for this fault
abbrev pub IsNoFormat : Profile → Option ℕ → List PrintUnit → FormatFault → Type 0
IsNoFormat profile width us fault = (text : List ℕ) × IsScanText width us text × IsRefused profile text fault
