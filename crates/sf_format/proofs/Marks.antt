-- With a ! written, a part of a scan format stands for what it stands for without, made strict.
use Rattle.std.proofs.Common.{◌≡◌, ℕ, Bool, true, false, ◌||◌, Option, Some, None, ap, ◌∙◌, sym, refl, subst, arith}
use Rattle.sf_base.specs.declared.values.Kind.{Kind}
use Rattle.sf_format.specs.declared.directive.Profile.{Profile}
use Rattle.sf_format.specs.declared.directive.Shape.{Shape}
use Rattle.sf_format.specs.declared.directive.Conversion.{Conversion}
use Rattle.sf_format.specs.declared.directive.Directive.{Directive}
use Rattle.sf_format.specs.declared.directive.Directive.TheVariants as directive
use Rattle.sf_format.specs.declared.directive.Literal.{Literal}
use Rattle.sf_format.specs.declared.directive.Literal.TheVariants as literal
use Rattle.sf_format.specs.declared.letter.Length.{Length}
use Rattle.sf_format.specs.declared.letter.Length.TheVariants.{NoLength, HH, H, LL, L, J, Z, T}
use Rattle.sf_format.specs.declared.letter.Letter.{Letter}
use Rattle.sf_format.specs.declared.letter.Letter.TheVariants.{Signed, Unsigned, Chars, Text, Set, Count, Float}
use Rattle.sf_format.specs.Grammar.{IsConversion, literal_that, Means, shape_of}
use Rattle.sf_format.specs.Letters.{letter_of, kind_of, signed_kind, unsigned_kind}
use Rattle.sf_format.specs.Layout.{signed_in}
use Rattle.sf_format.specs.Pieces.{Opening, WhiteSpace, Ordinary, Percents, Plain, Bracket}
use Rattle.sf_format.specs.Strictness.{strict_shape, strictly, has_mark, opening_marked, marked, MarksMakeStrict}

-- ---- the sign of a letter's kind

has_sign : (size : Length) → signed_in (signed_kind size) ≡ true
has_sign NoLength = refl
has_sign HH = refl
has_sign H = refl
has_sign LL = refl
has_sign L = refl
has_sign J = refl
has_sign Z = refl
has_sign T = refl

has_none : (size : Length) → signed_in (unsigned_kind size) ≡ false
has_none NoLength = refl
has_none HH = refl
has_none H = refl
has_none LL = refl
has_none L = refl
has_none J = refl
has_none Z = refl
has_none T = refl

some_is : {X : Type 0} (x y : X) → Some x ≡ Some y → x ≡ y
some_is x y e = grind arith

-- ---- one conversion

conversion_marked : (opens : Option ℕ) (place : ℕ) (o : Opening) (letter : Letter) (c : Conversion) (s : Shape)
    → IsConversion opens place o letter c → IsConversion opens place (opening_marked letter o) letter (record c { shape = s })
conversion_marked opens place o letter c s h = record {
  kind = h.kind;
  width = h.width;
  slot = h.slot;
  optional = h.optional;
  opens = h.opens;
  column = h.column;
}

-- the shape of a conversion without the mark is made that with it
shape_marked : (letter : Letter) (size : Length) (strict : Bool) (kind : Kind) (s : Shape) → kind_of letter size ≡ Some kind
    → shape_of letter strict s → shape_of letter (has_mark letter || strict) (strict_shape kind s)
shape_marked (Signed base) size strict kind s known is =
    rw (is, sym (some_is (signed_kind size) kind known), has_sign size) refl
shape_marked (Unsigned base) size strict kind s known is =
    rw (is, sym (some_is (unsigned_kind size) kind known), has_none size) refl
shape_marked Chars size strict kind s known is = rw is refl
shape_marked Text size strict kind s known is = rw is refl
shape_marked Count size strict kind s known is = rw is refl
shape_marked Float size strict kind s known is = rw is refl
shape_marked Set size strict kind s known is = is

plain_marked : (profile : Profile) (o : Opening) (b : ℕ) (letter : Letter) → letter_of profile b ≡ Some letter
    → marked profile (Plain o b) ≡ Plain (opening_marked letter o) b
plain_marked profile o b letter known =
    ap (λ found. elim found [ None ↦ Plain o b | Some l ↦ Plain (opening_marked l o) b ]) known

made_strict : (d : Directive) (c : Conversion) → d ≡ directive.Conv c
    → strictly d ≡ directive.Conv (record c { shape = strict_shape c.kind c.shape })
made_strict d c told = ap strictly told

literal_strict : (opens : Option ℕ) (l : Literal) → strictly (literal_that opens l) ≡ literal_that opens l
literal_strict None (literal.Byte b) = refl
literal_strict None literal.Percent = refl
literal_strict (Some more) l = refl

pub marks_make_strict : MarksMakeStrict
marks_make_strict profile opens place (WhiteSpace bs) d h = ap strictly h
marks_make_strict profile opens place (Ordinary b) d h = ap strictly h ∙ literal_strict opens (literal.Byte b)
marks_make_strict profile opens place Percents d h = ap strictly h ∙ literal_strict opens literal.Percent
marks_make_strict profile opens place (Plain o b) d (letter, c, known, is, takes, told) =
    subst (λ p. Means profile opens place p (strictly d)) (sym (plain_marked profile o b letter known)) (
      letter,
      (record c { shape = strict_shape c.kind c.shape }),
      known,
      conversion_marked opens place o letter c (strict_shape c.kind c.shape) is,
      shape_marked letter o.size o.strict c.kind c.shape is.kind takes,
      made_strict d c told,
    )
marks_make_strict profile opens place (Bracket o list) d (c, members, is, set, takes, told) = (
  (record c { shape = strict_shape c.kind c.shape }),
  members,
  record { kind = is.kind; width = is.width; slot = is.slot; optional = is.optional; opens = is.opens; column = is.column },
  set,
  rw takes refl,
  made_strict d c told,
)
marks_make_strict profile opens place _ d h = absurd h
