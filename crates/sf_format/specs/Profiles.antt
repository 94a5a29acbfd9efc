-- A format in each profile.
use Rattle.std.specs.Prelude.{◌≡◌, false, List, map}
use Rattle.std.specs.List.{AllByRecursion}
use Rattle.sf_format.specs.declared.directive.Base.{Base}
use Rattle.sf_format.specs.declared.directive.Base.TheVariants.{Bin, Auto, AutoBin}
use Rattle.sf_format.specs.declared.directive.Shape.{Shape}
use Rattle.sf_format.specs.declared.directive.Shape.TheVariants.{Int, Float}
use Rattle.sf_format.specs.declared.directive.Directive.{Directive}
use Rattle.sf_format.specs.declared.directive.Directive.TheVariants.{Conv, Opens}
use Rattle.sf_format.specs.Leads.{is_strict}
use Rattle.sf_format.specs.declared.unit.PrintLetter.{PrintLetter}
use Rattle.sf_format.specs.declared.unit.PrintLetter.TheVariants as letter
use Rattle.sf_format.specs.declared.unit.Unit.{Unit as PrintUnit}
use Rattle.sf_format.specs.declared.unit.Unit.TheVariants as unit

-- another base in its place
abbrev pub shape_with : (Base → Base) → Shape → Shape
shape_with other (Int numeral) = Int (record numeral { base = other numeral.base })
shape_with other shape = shape

abbrev pub directive_with : (Base → Base) → Directive → Directive
directive_with other (Conv c) = Conv (record c { shape = shape_with other c.shape })
directive_with other d = d

-- profile 2 has AutoBin for Auto
abbrev pub base_in_two : Base → Base
base_in_two Auto = AutoBin
base_in_two base = base

abbrev pub base_in_one : Base → Base
base_in_one AutoBin = Auto
base_in_one base = base

abbrev pub in_two : List Directive → List Directive
in_two ds = map (directive_with base_in_two) ds

abbrev pub in_one : List Directive → List Directive
in_one ds = map (directive_with base_in_one) ds

-- ---- what is of profile 2 alone

abbrev pub ShapeHas : (Base → Type 0) → Shape → Type 0
ShapeHas P (Int numeral) = P numeral.base
ShapeHas P shape = Unit {0}

abbrev pub DirectiveHas : (Base → Type 0) → Directive → Type 0
DirectiveHas P (Conv c) = ShapeHas P c.shape
DirectiveHas P d = Unit {0}

-- ---- what is of profile 3 alone

-- no float, never missing, no column, not strict, and no group
abbrev pub IsNoFloat : Shape → Type 0
IsNoFloat (Float lead) = ⊥
IsNoFloat shape = Unit {0}

abbrev pub IsOfTwo : Directive → Type 0
IsOfTwo (Conv c) = IsNoFloat c.shape × (c.optional ≡ false) × (c.column ≡ false) × (is_strict c.shape ≡ false)
IsOfTwo (Opens o) = ⊥
IsOfTwo d = Unit {0}

abbrev pub AreOfTwo : List Directive → Type 0
AreOfTwo ds = AllByRecursion IsOfTwo ds

-- each integer's base is so
abbrev pub HaveBases : (Base → Type 0) → List Directive → Type 0
HaveBases P ds = AllByRecursion (DirectiveHas P) ds

-- not the base of b
abbrev pub IsNotBin : Base → Type 0
IsNotBin Bin = ⊥
IsNotBin base = Unit {0}

-- of profile 1
abbrev pub IsOfOne : Base → Type 0
IsOfOne Bin = ⊥
IsOfOne AutoBin = ⊥
IsOfOne base = Unit {0}

abbrev pub IsNotBinary : PrintLetter → Type 0
IsNotBinary letter.Binary = ⊥
IsNotBinary l = Unit {0}

-- of profile 3 alone
abbrev pub IsNotFloat : PrintLetter → Type 0
IsNotFloat (letter.Float style upper) = ⊥
IsNotFloat l = Unit {0}

abbrev pub UnitHas : (PrintLetter → Type 0) → PrintUnit → Type 0
UnitHas P (unit.Conv c) = P c.letter
UnitHas P u = Unit {0}

abbrev pub AreNotBinary : List PrintUnit → Type 0
AreNotBinary us = AllByRecursion (UnitHas IsNotBinary) us

abbrev pub AreNotFloats : List PrintUnit → Type 0
AreNotFloats us = AllByRecursion (UnitHas IsNotFloat) us
