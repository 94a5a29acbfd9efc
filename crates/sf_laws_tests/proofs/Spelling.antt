-- The directives that a text spells, computed.
use Rattle.std.proofs.Common.{◌≡◌, ℕ, ◌+◌, ◌<◌, Bool, true, false, nat_lt, List, [], ◌∷◌, length, map, Option, Some, None, Ok, Err}
use Rattle.std.proofs.Common.{refl, sym, subst, arith, ◌||◌, is_some}
use Rattle.std.specs.List.{list_all, range_with_len}
use Rattle.std.proofs.lemmas.Bool.Decides.{nat_tests}
use Rattle.std.proofs.lemmas.List.FromFn.{get_or-map-range_with_len, length-map-range_with_len}
use Rattle.sf_base.specs.Bytes.{AreBytes}
use Rattle.sf_base.specs.declared.values.Kind.{Kind}
use Rattle.sf_format.specs.declared.directive.Profile.{Profile}
use Rattle.sf_format.specs.declared.directive.Shape.{Shape}
use Rattle.sf_format.specs.declared.directive.Shape.TheVariants as shape
use Rattle.sf_format.specs.declared.directive.Conversion.{Conversion}
use Rattle.sf_format.specs.declared.directive.Directive.{Directive}
use Rattle.sf_format.specs.declared.directive.Directive.TheVariants as directive
use Rattle.sf_format.specs.declared.directive.Literal.TheVariants as literal
use Rattle.sf_format.specs.declared.letter.Letter.{Letter}
use Rattle.sf_format.specs.declared.letter.Letter.TheVariants.{Signed, Unsigned, Chars, Text, Set, Count, Float}
use Rattle.sf_format.specs.Leads.{lead_of_signed, lead_of_others}
use Rattle.sf_format.specs.Language.{Scan}
use Rattle.sf_format.specs.Letters.{letter_of, kind_of}
use Rattle.sf_format.specs.Scanlist.{Scanlist, is_member, IsSetOf}
use Rattle.sf_format.specs.Slots.{slot_of}
use Rattle.sf_format.specs.Pieces.{Piece, Opening, WhiteSpace, Ordinary, Percents, Plain, Bracket, GroupStart, GroupEnd}
use Rattle.sf_format.specs.Groups.{opened_by}
use Rattle.sf_format.specs.Grammar.{Spells, Means, MeanAll, destinations, literal_that, shape_of, width_of}
use Rattle.sf_format.specs.Reading.{judged}
use Rattle.sf_format.proofs.Judgements.{Judgement, Judges, judged_tells}

abbrev pub is_byte : ℕ → Bool
is_byte b = nat_lt b 256

below : (b : ℕ) → is_byte b ≡ true → b < 256
below b e = grind (arith, nat_tests)

pub bytes_are : (x : List ℕ) → list_all is_byte x ≡ true → AreBytes x
bytes_are [] e = tt
bytes_are (b ∷ x) e = split (is_byte b) refl (λ rest. bytes_are x rest)
  where
    split : (t : Bool) → is_byte b ≡ t → (list_all is_byte x ≡ true → AreBytes x) → AreBytes (b ∷ x)
    split true h f = (below b h, f (let rest : list_all is_byte x ≡ true = grind arith in rest))
    split false h f = absurd (grind arith)

-- ---- sets

abbrev set_of : Scanlist → List Bool
set_of list = map (is_member list) (range_with_len 0 256)

set_is : (list : Scanlist) → IsSetOf list (set_of list)
set_is list = (
  length-map-range_with_len (is_member list) 0 256,
  λ b below. get_or-map-range_with_len (is_member list) 0 256 b b false below (omega arith),
)

-- ---- one part

abbrev made : Option ℕ → ℕ → Opening → Letter → Shape → Kind → Conversion
made opens place o letter s k = record {
  shape = s;
  kind = k;
  width = width_of letter o.width;
  slot = slot_of place o;
  optional = o.optional || is_some opens;
  opens = opens;
  column = o.column;
}

abbrev by_kind : Option ℕ → ℕ → Opening → Letter → Shape → Option Kind → Option Directive
by_kind opens place o letter s None = None
by_kind opens place o letter s (Some k) = Some (directive.Conv (made opens place o letter s k))

-- what a letter other than [ takes
abbrev shape_by : Letter → Bool → Shape
shape_by (Signed base) strict = shape.Int (record { base = base; lead = lead_of_signed strict })
shape_by (Unsigned base) strict = shape.Int (record { base = base; lead = lead_of_others strict })
shape_by Chars strict = shape.Chars
shape_by Text strict = shape.Text (lead_of_others strict)
shape_by Count strict = shape.Count
shape_by Float strict = shape.Float (lead_of_signed strict)
shape_by Set strict = shape.Count

abbrev by_letter : Option ℕ → ℕ → Opening → Option Letter → Option Directive
by_letter opens place o None = None
by_letter opens place o (Some Set) = None
by_letter opens place o (Some letter) = by_kind opens place o letter (shape_by letter o.strict) (kind_of letter o.size)

-- the directive that a part stands for
abbrev directive_of : Profile → Option ℕ → ℕ → Piece → Option Directive
directive_of profile opens place (WhiteSpace bs) = Some directive.Space
directive_of profile opens place (Ordinary b) = Some (literal_that opens (literal.Byte b))
directive_of profile opens place Percents = Some (literal_that opens literal.Percent)
directive_of profile opens place (Plain o b) = by_letter opens place o (letter_of profile b)
directive_of profile opens place (Bracket o list) = by_kind opens place o Set (shape.Set (set_of list)) (kind_of Set o.size)
directive_of profile opens place _ = None

same_some : {A : Type 0} (a b : A) → Some a ≡ Some b → b ≡ a
same_some a b e = cc

none_some : {A : Type 0} (a : A) → None ≡ Some a → ⊥
none_some a e = absurd cc

by_kind_is : (profile : Profile) (opens : Option ℕ) (place : ℕ) (o : Opening) (b : ℕ) (d : Directive) (letter : Letter) (s : Shape)
    → letter_of profile b ≡ Some letter → shape_of letter o.strict s → (k : Option Kind) → kind_of letter o.size ≡ k
    → by_kind opens place o letter s k ≡ Some d → Means profile opens place (Plain o b) d
by_kind_is profile opens place o b d letter s is shaped None h e = absurd (none_some d e)
by_kind_is profile opens place o b d letter s is shaped (Some k) h e = (
  letter,
  made opens place o letter s k,
  is,
  record { kind = h; width = refl; slot = refl; optional = refl; opens = refl; column = refl },
  shaped,
  same_some (directive.Conv (made opens place o letter s k)) d e,
)

by_letter_is : (profile : Profile) (opens : Option ℕ) (place : ℕ) (o : Opening) (b : ℕ) (d : Directive) (l : Option Letter)
    → letter_of profile b ≡ l
    → by_letter opens place o l ≡ Some d → Means profile opens place (Plain o b) d
by_letter_is profile opens place o b d None is e = absurd (none_some d e)
by_letter_is profile opens place o b d (Some (Signed base)) is e =
    by_kind_is profile opens place o b d (Signed base) (shape_by (Signed base) o.strict) is refl (kind_of (Signed base) o.size) refl e
by_letter_is profile opens place o b d (Some (Unsigned base)) is e =
    by_kind_is profile opens place o b d (Unsigned base) (shape_by (Unsigned base) o.strict) is refl (kind_of (Unsigned base) o.size) refl e
by_letter_is profile opens place o b d (Some Chars) is e =
    by_kind_is profile opens place o b d Chars (shape_by Chars o.strict) is refl (kind_of Chars o.size) refl e
by_letter_is profile opens place o b d (Some Text) is e =
    by_kind_is profile opens place o b d Text (shape_by Text o.strict) is refl (kind_of Text o.size) refl e
by_letter_is profile opens place o b d (Some Count) is e =
    by_kind_is profile opens place o b d Count (shape_by Count o.strict) is refl (kind_of Count o.size) refl e
by_letter_is profile opens place o b d (Some Float) is e =
    by_kind_is profile opens place o b d Float (shape_by Float o.strict) is refl (kind_of Float o.size) refl e
by_letter_is profile opens place o b d (Some Set) is e = absurd (none_some d e)

by_list_is : (profile : Profile) (opens : Option ℕ) (place : ℕ) (o : Opening) (list : Scanlist) (d : Directive) (k : Option Kind)
    → kind_of Set o.size ≡ k
    → by_kind opens place o Set (shape.Set (set_of list)) k ≡ Some d → Means profile opens place (Bracket o list) d
by_list_is profile opens place o list d None h e = absurd (none_some d e)
by_list_is profile opens place o list d (Some k) h e = (
  made opens place o Set (shape.Set (set_of list)) k,
  set_of list,
  record { kind = h; width = refl; slot = refl; optional = refl; opens = refl; column = refl },
  set_is list,
  refl,
  same_some (directive.Conv (made opens place o Set (shape.Set (set_of list)) k)) d e,
)

means_is : (profile : Profile) (opens : Option ℕ) (place : ℕ) (piece : Piece) (d : Directive)
    → directive_of profile opens place piece ≡ Some d → Means profile opens place piece d
means_is profile opens place (WhiteSpace bs) d e = same_some directive.Space d e
means_is profile opens place (Ordinary b) d e = same_some (literal_that opens (literal.Byte b)) d e
means_is profile opens place Percents d e = same_some (literal_that opens literal.Percent) d e
means_is profile opens place (Plain o b) d e = by_letter_is profile opens place o b d (letter_of profile b) refl e
means_is profile opens place (Bracket o list) d e = by_list_is profile opens place o list d (kind_of Set o.size) refl e
means_is profile opens place _ d e = absurd (none_some d e)

-- ---- all parts

abbrev put : Option Directive → Option (List Directive) → Option (List Directive)
put None ds = None
put (Some d) None = None
put (Some d) (Some ds) = Some (d ∷ ds)

abbrev all_of : Profile → Bool → ℕ → List Piece → Option (List Directive)
all_of profile first place [] = Some []
all_of profile first place (GroupStart ∷ pieces) = all_of profile true place pieces
all_of profile first place (GroupEnd ∷ pieces) = all_of profile false place pieces
all_of profile first place (piece ∷ pieces) =
    put (directive_of profile (opened_by first pieces) place piece)
    (all_of profile false (place + length (destinations (piece ∷ []))) pieces)

-- both are there
both : (o : Option Directive) (rest : Option (List Directive)) (ds : List Directive) → put o rest ≡ Some ds
    → (d : Directive) × (others : List Directive) × (o ≡ Some d) × (rest ≡ Some others) × (ds ≡ d ∷ others)
both None rest ds e = absurd (none_some ds e)
both (Some d) None ds e = absurd (none_some ds e)
both (Some d) (Some others) ds e = (d, others, refl, refl, same_some (d ∷ others) ds e)

all_are : (profile : Profile) (first : Bool) (place : ℕ) (pieces : List Piece) (ds : List Directive)
    → all_of profile first place pieces ≡ Some ds → MeanAll (Means profile) first place pieces ds
all_are profile first place [] ds e =
    subst (λ (x : List Directive). MeanAll (Means profile) first place [] x) (sym (same_some [] ds e)) tt
all_are profile first place (GroupStart ∷ pieces) ds e = all_are profile true place pieces ds e
all_are profile first place (GroupEnd ∷ pieces) ds e = all_are profile false place pieces ds e
all_are profile first place (piece ∷ pieces) ds e =
    let next = place + length (destinations (piece ∷ [])) in
    let (d, others, here, later, is) =
    both (directive_of profile (opened_by first pieces) place piece) (all_of profile false next pieces) ds e in
    subst (λ (x : List Directive). MeanAll (Means profile) first place (piece ∷ pieces) x) (sym is)
    (means_is profile (opened_by first pieces) place piece d here, all_are profile false next pieces others later)

abbrev by_parts : Profile → Judgement → Option (List Directive)
by_parts profile (Ok pieces) = all_of profile false 1 pieces
by_parts profile (Err fault) = None

-- the directives of a text
abbrev pub directives_of : Profile → List ℕ → Option (List Directive)
directives_of profile text = by_parts profile (judged (Scan profile) text)

pub spells : (profile : Profile) (text : List ℕ) (ds : List Directive) → AreBytes text → directives_of profile text ≡ Some ds
    → Spells profile text ds
spells profile text ds bytes e = by (judged (Scan profile) text) (judged_tells (Scan profile) text bytes) e
  where
    by : (r : Judgement) → Judges (Scan profile) text r → by_parts profile r ≡ Some ds → Spells profile text ds
    by (Ok pieces) h f = (pieces, h.0, h.1, all_are profile false 1 pieces ds f)
    by (Err fault) h f = absurd (none_some ds f)
