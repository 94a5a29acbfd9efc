-- The grammar of formats (C11 7.21.6.2p3 to p12, POSIX fscanf for the numbers).
use Rattle.std.specs.Prelude.{◌≡◌, ◌≢◌, ℕ, ◌+◌, ◌<◌, ◌≤◌, ◌⊎◌, ◌||◌, Bool, true, false, List, [], ◌∷◌, length, map, Option, Some, None}
use Rattle.std.specs.Prelude.{IsSome, is_some, if◌then◌else◌}
use Prim.Native.Char.{code}
use Rattle.std.specs.List.{AllByRecursion}
use Rattle.sf_base.specs.Bytes.{is_white, AreWhite, magnitude}
use Rattle.sf_format.specs.Digits.{IsOptionalNumber, optional_number}
use Rattle.sf_format.specs.declared.directive.Profile.{Profile}
use Rattle.sf_format.specs.declared.directive.Shape.{Shape}
use Rattle.sf_format.specs.declared.directive.Shape.TheVariants as shape
use Rattle.sf_format.specs.declared.directive.Conversion.{Conversion}
use Rattle.sf_format.specs.declared.directive.Directive.{Directive}
use Rattle.sf_format.specs.declared.directive.Directive.TheVariants as directive
use Rattle.sf_format.specs.declared.directive.Literal.{Literal}
use Rattle.sf_format.specs.declared.directive.Literal.TheVariants as literal
use Rattle.sf_format.specs.declared.letter.Letter.{Letter}
use Rattle.sf_format.specs.declared.letter.Letter.TheVariants.{Signed, Unsigned, Chars, Text, Set, Count, Float}
use Rattle.sf_format.specs.Leads.{lead_of_signed, lead_of_others}
use Rattle.sf_format.specs.Letters.{has_doubles, letter_of, kind_of}
use Rattle.sf_format.specs.Scanlist.{IsScanlist, IsSetOf}
use Rattle.sf_format.specs.Slots.{AreDistinct, slot_of}
use Rattle.sf_format.specs.Language.{Language, Scan, Print}
use Rattle.sf_format.specs.declared.unit.Unit.{Unit as PrintUnit}
use Rattle.sf_format.specs.PrintGrammar.{IsPrintPiece, PrintsApart}
use Rattle.sf_format.specs.Pieces.{Opening, Piece, WhiteSpace, Ordinary, Percents, Plain, Bracket, GroupStart, GroupEnd, is_mark, text_of}
use Rattle.sf_format.specs.declared.groups.Stage.TheVariants.{Outside}
use Rattle.sf_format.specs.Groups.{AreGrouped, stage_after, opened_by}

-- n is never suppressed, takes no width and is never missing
abbrev pub SuitsCount : Letter → Opening → Type 0
SuitsCount Count o = (o.star ≡ false) × (o.width ≡ []) × (o.optional ≡ false)
SuitsCount _ o = Unit {0}

-- = is had by the letters of numbers, by s and by [, with a width
abbrev pub SuitsColumn : Letter → Opening → Type 0
SuitsColumn Chars o = o.column ≡ false
SuitsColumn Count o = o.column ≡ false
SuitsColumn _ o = o.column ≡ true → o.width ≢ []

-- ! is had by the letters of numbers, and by s
abbrev pub SuitsMark : Letter → Opening → Type 0
SuitsMark Chars o = o.strict ≡ false
SuitsMark Set o = o.strict ≡ false
SuitsMark Count o = o.strict ≡ false
SuitsMark _ o = Unit {0}

-- the letter may end a conversion specification that opens so
pub record Suits (profile : Profile) (letter : Letter) (o : Opening) : Type 0 where
  pub number : IsOptionalNumber 32 o.number
  pub suppressed : o.star ≡ true → o.number ≡ []
  pub optional : o.optional ≡ true → has_doubles profile ≡ true
  pub column : o.column ≡ true → has_doubles profile ≡ true
  pub strict : o.strict ≡ true → has_doubles profile ≡ true
  pub flags : o.flags ≡ []
  pub width : IsOptionalNumber 65535 o.width
  pub precision : o.precision ≡ None
  pub size : IsSome (kind_of letter o.size)
  pub count : SuitsCount letter o
  pub placed : SuitsColumn letter o
  pub mark : SuitsMark letter o

-- a part of a scan format, seen alone
abbrev pub IsScanPiece : Profile → Piece → Type 0
IsScanPiece profile (WhiteSpace bs) = (0 < length bs) × AreWhite bs
IsScanPiece profile (Ordinary b) = (b < 256) × (b ≢ 0) × (b ≢ code "%") × (is_white b ≡ false)
IsScanPiece profile Percents = Unit {0}
IsScanPiece profile (Plain o b) = (b ≢ code "[") × ((letter : Letter) × (letter_of profile b ≡ Some letter) × Suits profile letter o)
IsScanPiece profile (Bracket o list) = Suits profile Set o × IsScanlist list
IsScanPiece profile GroupStart = has_doubles profile ≡ true
IsScanPiece profile GroupEnd = has_doubles profile ≡ true

-- a part of a format, seen alone
abbrev pub IsPiece : Language → Piece → Type 0
IsPiece (Scan profile) piece = IsScanPiece profile piece
IsPiece (Print profile) piece = IsPrintPiece profile piece

-- no run of white space meets another
abbrev pub RunsApart : List Piece → Type 0
RunsApart [] = Unit {0}
RunsApart (WhiteSpace a ∷ WhiteSpace b ∷ pieces) = ⊥
RunsApart (piece ∷ pieces) = RunsApart pieces

-- the openings of the assigned conversions, or of the values
abbrev pub assigned_opening : Opening → List Opening → List Opening
assigned_opening o rest = if o.star then rest else o ∷ rest

abbrev pub destinations : List Piece → List Opening
destinations [] = []
destinations (Plain o letter ∷ pieces) = assigned_opening o (destinations pieces)
destinations (Bracket o list ∷ pieces) = assigned_opening o (destinations pieces)
destinations (_ ∷ pieces) = destinations pieces

-- destinations without numbers, at most 32
abbrev pub ArePlaced : List Opening → Type 0
ArePlaced os = AllByRecursion (λ o. o.number ≡ []) os × (length os ≤ 32)

-- destinations that have no fault so far: no number beside none, and at most 32 without numbers
abbrev pub AreAlike : List Opening → Type 0
AreAlike os = ArePlaced os ⊎ AllByRecursion (λ o. o.number ≢ []) os

-- destinations by the numbers 1 to their count, each once
abbrev pub AreNumbered : List Opening → Type 0
AreNumbered os =
    AllByRecursion (λ o. (o.number ≢ []) × (magnitude 10 o.number ≤ length os)) os
    × AreDistinct (map (λ o. magnitude 10 o.number) os)

pub record IsFormat (language : Language) (pieces : List Piece) : Type 0 where
  pub short : length (text_of pieces) ≤ 4096
  pub each : AllByRecursion (IsPiece language) pieces
  pub apart : RunsApart pieces
  pub slots : ArePlaced (destinations pieces) ⊎ AreNumbered (destinations pieces)
  -- each group has a first directive that may be one, and no other group in it
  pub grouped : AreGrouped Outside pieces
  -- and each has an end
  pub closed : stage_after Outside pieces ≡ Outside

-- the width; c has the width 1 where none is written (C11 7.21.6.2p12)
abbrev pub width_of : Letter → List ℕ → Option ℕ
width_of Chars [] = Some 1
width_of letter ds = optional_number ds

-- what a letter other than [ takes, with ! or without
abbrev pub shape_of : Letter → Bool → Shape → Type 0
shape_of (Signed base) strict s = s ≡ shape.Int (record { base = base; lead = lead_of_signed strict })
shape_of (Unsigned base) strict s = s ≡ shape.Int (record { base = base; lead = lead_of_others strict })
shape_of Chars strict s = s ≡ shape.Chars
shape_of Text strict s = s ≡ shape.Text (lead_of_others strict)
shape_of Count strict s = s ≡ shape.Count
shape_of Float strict s = s ≡ shape.Float (lead_of_signed strict)
shape_of Set strict s = ⊥

-- what a conversion specification stands for, but for its shape, which opens a group with so many directives after it, or none
pub record IsConversion (group : Option ℕ) (place : ℕ) (o : Opening) (letter : Letter) (c : Conversion) : Type 0 where
  pub kind : kind_of letter o.size ≡ Some c.kind
  pub width : c.width ≡ width_of letter o.width
  pub slot : c.slot ≡ slot_of place o
  pub optional : c.optional ≡ (o.optional || is_some group)
  pub opens : c.opens ≡ group
  pub column : c.column ≡ o.column

-- a literal that opens such a group, or none
abbrev pub literal_that : Option ℕ → Literal → Directive
literal_that None (literal.Byte b) = directive.Byte b
literal_that None literal.Percent = directive.Percent
literal_that (Some more) l = directive.Opens (record { literal = l; more = more })

-- the directive that a part stands for, which opens a group with so many directives after it, or none
abbrev pub Means : Profile → Option ℕ → ℕ → Piece → Directive → Type 0
Means profile opens place (WhiteSpace bs) d = d ≡ directive.Space
Means profile opens place (Ordinary b) d = d ≡ literal_that opens (literal.Byte b)
Means profile opens place Percents d = d ≡ literal_that opens literal.Percent
Means profile opens place (Plain o b) d =
    (letter : Letter) × (c : Conversion) × (letter_of profile b ≡ Some letter) × IsConversion opens place o letter c
    × shape_of letter o.strict c.shape × (d ≡ directive.Conv c)
Means profile opens place (Bracket o list) d =
    (c : Conversion) × (members : List Bool) × IsConversion opens place o Set c × IsSetOf list members × (c.shape ≡ shape.Set members)
    × (d ≡ directive.Conv c)
Means profile opens place _ d = ⊥

-- each part stands for exactly one of these, but for the marks of groups
pub record IsMeaning (D : Type 0) (language : Language) (means : Option ℕ → ℕ → Piece → D → Type 0) : Type 0 where
  pub one : (opens : Option ℕ) (place : ℕ) (piece : Piece) (d e : D) → means opens place piece d → means opens place piece e → d ≡ e
  pub some : (opens : Option ℕ) (place : ℕ) (piece : Piece) → IsPiece language piece → is_mark piece ≡ false
      → (d : D) × means opens place piece d

-- what the parts stand for, one by one, where place is that of the next destination. The marks of groups stand for nothing, and what
-- follows one that opens a group is its first directive: it opens the group with those that follow it there
abbrev pub MeanAll : {D : Type 0} → (Option ℕ → ℕ → Piece → D → Type 0) → Bool → ℕ → List Piece → List D → Type 0
MeanAll means first place [] [] = Unit {0}
MeanAll means first place (GroupStart ∷ pieces) ds = MeanAll means true place pieces ds
MeanAll means first place (GroupEnd ∷ pieces) ds = MeanAll means false place pieces ds
MeanAll means first place (piece ∷ pieces) (d ∷ ds) =
    means (opened_by first pieces) place piece d × MeanAll means false (place + length (destinations (piece ∷ []))) pieces ds
MeanAll means first place [] (d ∷ ds) = ⊥
MeanAll means first place (piece ∷ pieces) [] = ⊥

-- the text is that of the parts of a format, and they stand for these
abbrev pub SpellsAs : {D : Type 0} → Language → (Option ℕ → ℕ → Piece → D → Type 0) → List ℕ → List D → Type 0
SpellsAs language means text ds =
    (pieces : List Piece) × IsFormat language pieces × (text ≡ text_of pieces) × MeanAll means false 1 pieces ds

-- the same, where its parts have so many destinations
abbrev pub SpellsCounted : {D : Type 0} → Language → (Option ℕ → ℕ → Piece → D → Type 0) → List ℕ → List D → ℕ → Type 0
SpellsCounted language means text ds count = (spells : SpellsAs language means text ds) × (count ≡ length (destinations spells.0))

-- the text is a scan format with these directives
abbrev pub Spells : Profile → List ℕ → List Directive → Type 0
Spells profile text ds = SpellsAs (Scan profile) (Means profile) text ds

-- the text is a print format with these units
abbrev pub SpellsPrint : Profile → List ℕ → List PrintUnit → Type 0
SpellsPrint profile text us = SpellsAs (Print profile) (PrintsApart profile) text us
