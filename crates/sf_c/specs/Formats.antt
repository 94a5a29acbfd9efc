-- Formats as C hands them over: the number of a profile, and bytes.
use Rattle.std.specs.Prelude.{◌≡◌, ℕ, zero, suc, List, [], ◌∷◌, ◌++◌, length, take, Option, Some}
use Rattle.sf_base.specs.declared.values.Kind.{Kind}
use Rattle.sf_format.specs.declared.directive.Directive.{Directive}
use Rattle.sf_format.specs.declared.directive.Profile.{Profile}
use Rattle.sf_format.specs.declared.fault.FormatFault.{FormatFault}
use Rattle.sf_format.specs.declared.unit.Unit.{Unit as PrintUnit}
use Rattle.sf_format.specs.Faults.{IsRefused, IsPrintRefused}
use Rattle.sf_format.specs.Grammar.{Spells, SpellsPrint}
use Rattle.sf_format.specs.Proper.{destinations_of, kind_at}
use Rattle.sf_format.specs.Slots.{kind_with}
use Rattle.sf_format.specs.Units.{values_of}
use Rattle.sf_pair.specs.declared.fault.PairFault.{PairFault}
use Rattle.sf_pair.specs.Groups.{IsAligned}
use Rattle.sf_pair.specs.Walk.{pair_fault}
use Rattle.sf_c.specs.Numbers.{profile_of, format_number, pair_number, slot_number}

-- the bytes spell a scan format with these directives
abbrev pub IsScanFormat : ℕ → List ℕ → List Directive → Type 0
IsScanFormat profile text ds = (p : Profile) × (profile_of profile ≡ Some p) × Spells p text ds

-- the bytes spell a print format with these units
abbrev pub IsPrintFormat : ℕ → List ℕ → List PrintUnit → Type 0
IsPrintFormat profile text us = (p : Profile) × (profile_of profile ≡ Some p) × SpellsPrint p text us

-- the bytes are no scan format, for this fault, which has these numbers
pub record IsNoScanFormat (profile : ℕ) (text : List ℕ) (number at : ℕ) : Type 0 where
  pub by : Profile
  pub profile_is : profile_of profile ≡ Some by
  pub fault : FormatFault
  pub refused : IsRefused by text fault
  pub number_is : number ≡ format_number fault.why
  pub place : at ≡ fault.at

-- the bytes are no print format, for this fault
pub record IsNoPrintFormat (profile : ℕ) (text : List ℕ) (number at : ℕ) : Type 0 where
  pub by : Profile
  pub profile_is : profile_of profile ≡ Some by
  pub fault : FormatFault
  pub refused : IsPrintRefused by text fault
  pub number_is : number ≡ format_number fault.why
  pub place : at ≡ fault.at

-- the numbers of the kinds of the slots from 1 to n
abbrev pub kinds_to : ℕ → (ℕ → Option Kind) → List ℕ
kinds_to zero kind = []
kinds_to (suc n) kind = kinds_to n kind ++ slot_number (kind (suc n)) ∷ []

-- the first bytes are the kinds of the format's slots, from 1 on
pub record IsKindsOf (profile : ℕ) (text : List ℕ) (slots : ℕ) (kinds : List ℕ) : Type 0 where
  pub directives : List Directive
  pub format_is : IsScanFormat profile text directives
  pub count : slots ≡ length (destinations_of directives)
  pub kinds_are : take slots kinds ≡ kinds_to slots (λ slot. kind_at slot directives)

pub record IsPrintKindsOf (profile : ℕ) (text : List ℕ) (slots : ℕ) (kinds : List ℕ) : Type 0 where
  pub units : List PrintUnit
  pub format_is : IsPrintFormat profile text units
  pub count : slots ≡ length (values_of units)
  pub kinds_are : take slots kinds ≡ kinds_to slots (λ slot. kind_with slot (values_of units))

-- both texts spell formats, and the scan format reads back what the print format prints of values that fit, whatever follows
pub record IsPair (profile : ℕ) (print scan : List ℕ) : Type 0 where
  pub units : List PrintUnit
  pub directives : List Directive
  pub print_is : IsPrintFormat profile print units
  pub scan_is : IsScanFormat profile scan directives
  pub aligned : IsAligned units directives

-- both texts spell formats, and a walk over both meets this fault first
pub record IsNoPair (profile : ℕ) (print scan : List ℕ) (number at : ℕ) : Type 0 where
  pub units : List PrintUnit
  pub directives : List Directive
  pub print_is : IsPrintFormat profile print units
  pub scan_is : IsScanFormat profile scan directives
  pub fault : PairFault
  pub fault_is : pair_fault units directives ≡ Some fault
  pub number_is : number ≡ pair_number fault.why
  pub place : at ≡ fault.at
