-- A format as if each conversion that can have ! had it.
use Rattle.std.specs.Prelude.{ℕ, Bool, true, false, ◌||◌, Option, Some, None}
use Rattle.sf_base.specs.declared.values.Kind.{Kind}
use Rattle.sf_format.specs.declared.directive.Profile.{Profile}
use Rattle.sf_format.specs.declared.directive.Lead.{Lead}
use Rattle.sf_format.specs.declared.directive.Lead.TheVariants.{Minus, Nothing}
use Rattle.sf_format.specs.declared.directive.Shape.{Shape}
use Rattle.sf_format.specs.declared.directive.Shape.TheVariants.{Int, Text, Float}
use Rattle.sf_format.specs.declared.directive.Directive.{Directive}
use Rattle.sf_format.specs.declared.directive.Directive.TheVariants.{Conv}
use Rattle.sf_format.specs.declared.letter.Letter.{Letter}
use Rattle.sf_format.specs.declared.letter.Letter.TheVariants.{Chars, Set, Count}
use Rattle.sf_format.specs.Letters.{letter_of}
use Rattle.sf_format.specs.Pieces.{Opening, Piece, Plain}
use Rattle.sf_format.specs.Grammar.{Means}
use Rattle.sf_format.specs.Layout.{signed_in}

-- a minus before the digits of an integer with a sign, nothing before those of another
abbrev pub lead_by_sign : Bool → Lead
lead_by_sign true = Minus
lead_by_sign false = Nothing

abbrev pub strict_shape : Kind → Shape → Shape
strict_shape kind (Int numeral) = Int (record numeral { lead = lead_by_sign (signed_in kind) })
strict_shape kind (Text lead) = Text Nothing
strict_shape kind (Float lead) = Float Minus
strict_shape kind shape = shape

abbrev pub strictly : Directive → Directive
strictly (Conv c) = Conv (record c { shape = strict_shape c.kind c.shape })
strictly d = d

-- ---- the same, written

-- the letter may have !
abbrev pub has_mark : Letter → Bool
has_mark Chars = false
has_mark Set = false
has_mark Count = false
has_mark _ = true

abbrev pub opening_marked : Letter → Opening → Opening
opening_marked letter o = record o { strict = has_mark letter || o.strict }

-- the part with a !, where its letter may have that
abbrev pub marked : Profile → Piece → Piece
marked profile (Plain o b) = elim (letter_of profile b) [ None ↦ Plain o b | Some letter ↦ Plain (opening_marked letter o) b ]
marked profile piece = piece

-- with the mark written a part stands for what it stands for without, made strict
abbrev pub MarksMakeStrict : Type 0
MarksMakeStrict = (profile : Profile) (opens : Option ℕ) (place : ℕ) (piece : Piece) (d : Directive) → Means profile opens place piece d
    → Means profile opens place (marked profile piece) (strictly d)
