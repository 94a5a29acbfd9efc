-- Laws of formats.
use Rattle.std.specs.Prelude.{◌≡◌, ℕ, ◌≤◌, ◌⊎◌, ◌↔◌, false, List, length, IsSome}
use Rattle.sf_base.specs.Bytes.{AreBytes}
use Rattle.sf_format.specs.PrintGrammar.{PrintsApart}
use Rattle.sf_format.specs.declared.directive.Profile.{Profile}
use Rattle.sf_format.specs.declared.directive.Profile.TheVariants.{One, Two, Three}
use Rattle.sf_format.specs.declared.directive.Directive.{Directive}
use Rattle.sf_format.specs.Language.{Scan, Print}
use Rattle.sf_format.specs.declared.unit.Unit.{Unit as PrintUnit}
use Rattle.sf_format.specs.declared.fault.FormatWhy.{FormatWhy}
use Rattle.sf_format.specs.Pieces.{Piece}
use Rattle.sf_format.specs.Grammar.{Spells, SpellsPrint, IsFormat, ArePlaced, destinations, Means, MeanAll}
use Rattle.sf_format.specs.Proper.{IsAccepted, AreInOrder}
use Rattle.sf_format.specs.Units.{AreAccepted, ArePrintedInOrder}
use Rattle.sf_format.specs.Slots.{Slotted, kind_with, AreSlots}
use Rattle.sf_format.specs.Profiles.{in_two, in_one, HaveBases, IsNotBin, IsOfOne, AreOfTwo, AreNotBinary, AreNotFloats}

-- a text spells at most one list
abbrev pub SpellOne : {D : Type 0} → (Profile → List ℕ → List D → Type 0) → Type 0
SpellOne {D} spells = (profile : Profile) (text : List ℕ) (ds es : List D) → spells profile text ds → spells profile text es → ds ≡ es

-- a text has at most one fault
abbrev pub HaveOneFault : (Profile → List ℕ → ℕ → FormatWhy → Type 0) → Type 0
HaveOneFault faults =
    (profile : Profile) (text : List ℕ) (at place : ℕ) (why reason : FormatWhy) → faults profile text at why
    → faults profile text place reason
    → (at ≡ place) × (why ≡ reason)

-- no spelled text has a fault
abbrev pub AreNeverBoth : {D : Type 0} → (Profile → List ℕ → List D → Type 0) → (Profile → List ℕ → ℕ → FormatWhy → Type 0) → Type 0
AreNeverBoth {D} spells faults =
    (profile : Profile) (text : List ℕ) (ds : List D) (at : ℕ) (why : FormatWhy) → spells profile text ds → faults profile text at why → ⊥

-- a text of bytes is spelled, or has a fault
abbrev pub AreEither : {D : Type 0} → (Profile → List ℕ → List D → Type 0) → (Profile → List ℕ → ℕ → FormatWhy → Type 0) → Type 0
AreEither {D} spells faults =
    (profile : Profile) (text : List ℕ) → AreBytes text
    → ((ds : List D) × spells profile text ds) ⊎ ((at : ℕ) × (why : FormatWhy) × faults profile text at why)

-- ---- scan formats

-- what is spelled is proper
abbrev pub EachIsProper : Type 0
EachIsProper = (profile : Profile) (text : List ℕ) (ds : List Directive) → Spells profile text ds → IsAccepted ds

-- without numbers the slots are assigned in order
abbrev pub EachUnnumberedIsInOrder : Type 0
EachUnnumberedIsInOrder =
    (profile : Profile) (pieces : List Piece) (ds : List Directive) → IsFormat (Scan profile) pieces → ArePlaced (destinations pieces)
    → MeanAll (Means profile) false 1 pieces ds → AreInOrder ds

-- ---- print formats

abbrev pub EachPrintIsProper : Type 0
EachPrintIsProper = (profile : Profile) (text : List ℕ) (us : List PrintUnit) → SpellsPrint profile text us → AreAccepted us

abbrev pub EachUnnumberedPrintIsInOrder : Type 0
EachUnnumberedPrintIsInOrder =
    (profile : Profile) (pieces : List Piece) (us : List PrintUnit) → IsFormat (Print profile) pieces → ArePlaced (destinations pieces)
    → MeanAll (PrintsApart profile) false 1 pieces us → ArePrintedInOrder us

-- ---- slots

-- of the slots of a format, just those from 1 to their count have a kind
abbrev pub JustSlotsHaveKinds : Type 0
JustSlotsHaveKinds = (slot : ℕ) (entries : List Slotted) → AreSlots entries
    → IsSome (kind_with slot entries) ↔ ((1 ≤ slot) × (slot ≤ length entries))

-- ---- the profiles

-- a text that profile 1 spells, profile 2 spells with the same directives, but AutoBin for Auto
abbrev pub TwoSpellsOne : Type 0
TwoSpellsOne = (text : List ℕ) (ds : List Directive) → Spells One text ds → Spells Two text (in_two ds)

-- a text that profile 2 spells without Bin, profile 1 spells with the same directives, but Auto for AutoBin
abbrev pub OneSpellsTwo : Type 0
OneSpellsTwo = (text : List ℕ) (ds : List Directive) → Spells Two text ds → HaveBases IsNotBin ds → Spells One text (in_one ds)

-- what profile 1 spells has no Bin and no AutoBin
abbrev pub OneHasOldBases : Type 0
OneHasOldBases = (text : List ℕ) (ds : List Directive) → Spells One text ds → HaveBases IsOfOne ds

-- the same of print formats; without Binary nothing changes
abbrev pub TwoPrintsOne : Type 0
TwoPrintsOne = (text : List ℕ) (us : List PrintUnit) → SpellsPrint One text us → SpellsPrint Two text us × AreNotBinary us

abbrev pub OnePrintsTwo : Type 0
OnePrintsTwo = (text : List ℕ) (us : List PrintUnit) → SpellsPrint Two text us → AreNotBinary us → SpellsPrint One text us

-- profile 3 spells the scan formats of profile 2, and others with a float, a ?, a =, a ! or a group alone
abbrev pub ThreeSpellsTwo : Type 0
ThreeSpellsTwo = (text : List ℕ) (ds : List Directive) → Spells Two text ds → Spells Three text ds × AreOfTwo ds

abbrev pub TwoSpellsThree : Type 0
TwoSpellsThree = (text : List ℕ) (ds : List Directive) → Spells Three text ds → AreOfTwo ds → Spells Two text ds

-- its print formats without floats are those of profile 2
abbrev pub ThreePrintsTwo : Type 0
ThreePrintsTwo = (text : List ℕ) (us : List PrintUnit) → SpellsPrint Two text us → SpellsPrint Three text us × AreNotFloats us

abbrev pub TwoPrintsThree : Type 0
TwoPrintsThree = (text : List ℕ) (us : List PrintUnit) → SpellsPrint Three text us → AreNotFloats us → SpellsPrint Two text us
