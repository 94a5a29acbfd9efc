-- The profiles spell the same formats, but for base 2, floats, what may be missing, columns, and what is strict.
use Rattle.std.proofs.Common.{◌≡◌, ℕ, suc, ◌+◌, Bool, true, false, ◌||◌, refl, List, [], ◌∷◌, length, map, Option, None, Some}
use Rattle.std.proofs.Common.{sym, ap, ◌∙◌, subst, arith}
use Rattle.std.proofs.lemmas.List.{map-id}
use Rattle.std.specs.Option.{option_map}
use Rattle.std.specs.List.{AllByRecursion}
use Rattle.sf_format.specs.declared.directive.Profile.{Profile}
use Rattle.sf_format.specs.declared.directive.Profile.TheVariants.{One, Two, Three}
use Rattle.sf_format.specs.declared.directive.Base.{Base}
use Rattle.sf_format.specs.declared.directive.Base.TheVariants.{Bin}
use Rattle.sf_format.specs.declared.directive.Conversion.{Conversion}
use Rattle.sf_format.specs.declared.directive.Directive.{Directive}
use Rattle.sf_format.specs.declared.directive.Literal.{Literal}
use Rattle.sf_format.specs.declared.directive.Literal.TheVariants as literal
use Rattle.sf_format.specs.Language.{Language, Scan, Print}
use Rattle.sf_format.specs.declared.letter.Letter.{Letter}
use Rattle.sf_format.specs.declared.letter.Letter.TheVariants as scan
use Rattle.sf_format.specs.declared.unit.FloatStyle.{FloatStyle}
use Rattle.sf_format.specs.declared.unit.FloatStyle.TheVariants.{Fixed, Exponent, General, Hexadecimal}
use Rattle.sf_format.specs.declared.unit.PrintLetter.{PrintLetter}
use Rattle.sf_format.specs.declared.unit.PrintLetter.TheVariants.{Binary, Float}
use Rattle.sf_format.specs.declared.unit.Unit.{Unit as PrintUnit}
use Rattle.sf_format.specs.declared.directive.Shape.{Shape}
use Rattle.sf_format.specs.declared.directive.Directive.TheVariants.{Conv}
use Rattle.sf_format.specs.Leads.{is_strict}
use Rattle.sf_format.specs.Letters.{has_doubles, letters, letter_of}
use Rattle.sf_format.specs.PrintLetters.{print_letters, print_letter_of}
use Rattle.sf_format.specs.Pieces.{Opening, Piece, WhiteSpace, Ordinary, Percents, Plain, Bracket, GroupStart, GroupEnd, is_mark}
use Rattle.sf_format.specs.declared.groups.Stage.TheVariants.{Outside, First, Inside}
use Rattle.sf_format.specs.Groups.{role_of, may_stand, stage_after, AreGrouped, left_in}
use Rattle.sf_format.specs.PrintGrammar.{IsPrintPiece, Prints, PrintsApart}
use Rattle.sf_format.specs.Grammar.{SuitsMark, Suits, IsScanPiece, IsPiece, IsFormat, IsConversion, shape_of, destinations, literal_that}
use Rattle.sf_format.specs.Grammar.{Means, MeanAll, SpellsAs}
use Rattle.sf_format.specs.Profiles.{shape_with, directive_with, base_in_two, base_in_one, DirectiveHas, IsNotBin, IsOfOne, IsNoFloat}
use Rattle.sf_format.specs.Profiles.{IsOfTwo, AreOfTwo, IsNotBinary, IsNotFloat, UnitHas}
use Rattle.sf_format.specs.Laws.{TwoSpellsOne, OneSpellsTwo, OneHasOldBases, TwoPrintsOne, OnePrintsTwo, ThreeSpellsTwo, TwoSpellsThree}
use Rattle.sf_format.specs.Laws.{ThreePrintsTwo, TwoPrintsThree}
use Rattle.sf_format.proofs.Rules.{all_map}
use Rattle.sf_format.proofs.Groupings.{role_directive, next_outside, next_first, next_inside}
use Rattle.sf_format.proofs.Suits.{found, printed}
use Rattle.sf_format.proofs.Meanings.{mean_each}

-- ---- whole texts

-- no part is the mark of a group
abbrev Unmarked : List Piece → Type 0
Unmarked pieces = AllByRecursion (λ piece. is_mark piece ≡ false) pieces

-- what holds of each part holds of the whole
all_through : {D : Type 0} (p q : Language) (mean means : Option ℕ → ℕ → Piece → D → Type 0) (f : D → D) (P : D → Type 0)
    → ((place : ℕ) (piece : Piece) (d : D) → IsPiece p piece → mean None place piece d → P d
    → IsPiece q piece × means None place piece (f d))
    → (place : ℕ) (pieces : List Piece) (ds : List D) → Unmarked pieces → AllByRecursion (IsPiece p) pieces
    → MeanAll mean false place pieces ds
    → AllByRecursion P ds
    → AllByRecursion (IsPiece q) pieces × MeanAll means false place pieces (map f ds)
all_through p q mean means f P one place [] [] none each h has = (tt, h)
all_through p q mean means f P one place (GroupStart ∷ pieces) ds none each h has = absurd (let e = none.0 in cc)
all_through p q mean means f P one place (GroupEnd ∷ pieces) ds none each h has = absurd (let e = none.0 in cc)
all_through p q mean means f P one place (piece ∷ pieces) (d ∷ ds) none each h has =
    let here = one place piece d each.0 h.0 has.0 in
    let rest = all_through p q mean means f P one (place + length (destinations (piece ∷ []))) pieces ds none.1 each.1 h.1 has.1 in
    ((here.0, rest.0), (here.1, rest.1))
all_through p q mean means f P one place _ _ none each h has = absurd h

spells_through : {D : Type 0} (p q : Language) (mean means : Option ℕ → ℕ → Piece → D → Type 0) (f : D → D) (P : D → Type 0)
    → ((place : ℕ) (piece : Piece) (d : D) → IsPiece p piece → mean None place piece d → P d
    → IsPiece q piece × means None place piece (f d))
    → ((pieces : List Piece) (ds : List D) → IsFormat p pieces → MeanAll mean false 1 pieces ds → AllByRecursion P ds → Unmarked pieces)
    → (text : List ℕ) (ds : List D) → SpellsAs p mean text ds → AllByRecursion P ds → SpellsAs q means text (map f ds)
spells_through p q mean means f P one unmarked text ds (pieces, is, e, mean_all) has =
    let all = all_through p q mean means f P one 1 pieces ds (unmarked pieces ds is mean_all has) is.each mean_all has in (
      pieces,
      record { short = is.short; each = all.0; apart = is.apart; slots = is.slots; grouped = is.grouped; closed = is.closed },
      e,
      all.1,
    )

-- a part of a profile without groups is no mark of one
unmarked_part : (p : Profile) (piece : Piece) → has_doubles p ≡ false → IsScanPiece p piece → is_mark piece ≡ false
unmarked_part p GroupStart none is = let e = sym is ∙ none in cc
unmarked_part p GroupEnd none is = let e = sym is ∙ none in cc
unmarked_part p _ none is = refl

-- nor is one of a print format
unmarked_unit : (p : Profile) (piece : Piece) → IsPrintPiece p piece → is_mark piece ≡ false
unmarked_unit p GroupStart is = absurd is
unmarked_unit p GroupEnd is = absurd is
unmarked_unit p _ is = refl

unmarked_below : (p : Profile) (pieces : List Piece) → has_doubles p ≡ false → IsFormat (Scan p) pieces → Unmarked pieces
unmarked_below p pieces none is =
    all_map (IsScanPiece p) (λ piece. is_mark piece ≡ false) (λ piece part. unmarked_part p piece none part) pieces is.each

-- ---- scan formats

abbrev letter_with : (Base → Base) → Letter → Letter
letter_with other (scan.Signed base) = scan.Signed (other base)
letter_with other (scan.Unsigned base) = scan.Unsigned (other base)
letter_with other letter = letter

abbrev LetterHas : (Base → Type 0) → Letter → Type 0
LetterHas P (scan.Signed base) = P base
LetterHas P (scan.Unsigned base) = P base
LetterHas P _ = Unit {0}

-- a ?, a = or a ! of an opening in a profile has its place in another
abbrev MayMark : Profile → Profile → Bool → Type 0
MayMark p q mark = (mark ≡ true → has_doubles p ≡ true) → mark ≡ true → has_doubles q ≡ true

-- all of them
abbrev MarksMay : Profile → Profile → Opening → Type 0
MarksMay p q o = MayMark p q o.optional × MayMark p q o.column × MayMark p q o.strict

-- the same of a conversion
abbrev MarksOf : Profile → Profile → Conversion → Type 0
MarksOf p q c = MayMark p q c.optional × MayMark p q c.column × MayMark p q (is_strict c.shape)

suits_in : (p q : Profile) (letter : Letter) (o : Opening) → MarksMay p q o → Suits p letter o → Suits q letter o
suits_in p q letter o marks s = record {
  number = s.number;
  suppressed = s.suppressed;
  optional = marks.0 s.optional;
  column = marks.1 s.column;
  strict = marks.2 s.strict;
  flags = s.flags;
  width = s.width;
  precision = s.precision;
  size = s.size;
  count = s.count;
  placed = s.placed;
  mark = s.mark;
}

suits_with : (p : Profile) (other : Base → Base) (letter : Letter) (o : Opening) → Suits p letter o → Suits p (letter_with other letter) o
suits_with p other (scan.Signed base) o s = assumption s
suits_with p other (scan.Unsigned base) o s = assumption s
suits_with p other _ o s = s

abbrev conversion_with : (Base → Base) → Conversion → Conversion
conversion_with other c = record c { shape = shape_with other c.shape }

is_with : (other : Base → Base) (place : ℕ) (o : Opening) (letter : Letter) (c : Conversion) → IsConversion None place o letter c
    → IsConversion None place o (letter_with other letter) (conversion_with other c)
is_with other place o (scan.Signed base) c h = record {
  kind = h.kind;
  width = h.width;
  slot = h.slot;
  optional = h.optional;
  opens = h.opens;
  column = h.column;
}
is_with other place o _ c h = assumption h

-- a part in another profile, which has such letters too
scan_part : (p q : Profile) (other : Base → Base) (P : Base → Type 0) → ((mark : Bool) → MayMark p q mark)
    → ((b : ℕ) (letter : Letter) → letter_of p b ≡ Some letter → LetterHas P letter → letter_of q b ≡ Some (letter_with other letter))
    → (place : ℕ) (piece : Piece) (d : Directive) → IsScanPiece p piece → Means p None place piece d → DirectiveHas P d
    → IsScanPiece q piece × Means q None place piece (directive_with other d)
scan_part p q other P marks in_other place (Plain o b) d (plain, (l, known, suits)) (letter, c, e, is, takes, told) has =
    let same : l ≡ letter = let both = sym known ∙ e in cc in
    let base = rw told at has in
    let there = in_other b letter e (grind (arith, takes, base)) in
    let suit = suits_in p q letter o (marks o.optional, marks o.column, marks o.strict) (rw same at suits) in (
      (plain, (letter_with other letter, there, suits_with q other letter o suit)),
      (
        letter_with other letter,
        conversion_with other c,
        there,
        is_with other place o letter c is,
        grind (arith, takes),
        ap (directive_with other) told,
      ),
    )
scan_part p q other P marks in_other place (Bracket o list) d piece (c, members, is, set, takes, told) has = (
  (suits_in p q scan.Set o (marks o.optional, marks o.column, marks o.strict) piece.0, piece.1),
  (
    conversion_with other c,
    members,
    is_with other place o scan.Set c is,
    set,
    ap (shape_with other) takes,
    ap (directive_with other) told,
  ),
)
scan_part p q other P marks in_other place GroupStart d is h has = absurd h
scan_part p q other P marks in_other place GroupEnd d is h has = absurd h
scan_part p q other P marks in_other place _ d is h has = (is, ap (directive_with other) h)

literal_old : (opens : Option ℕ) (l : Literal) → DirectiveHas IsOfOne (literal_that opens l)
literal_old None (literal.Byte b) = tt
literal_old None literal.Percent = tt
literal_old (Some more) l = tt

means_old : (opens : Option ℕ) (place : ℕ) (piece : Piece) (d : Directive) → IsScanPiece One piece → Means One opens place piece d
    → DirectiveHas IsOfOne d
means_old opens place (WhiteSpace bs) d piece h = rw h tt
means_old opens place (Ordinary b) d piece h = rw h (literal_old opens (literal.Byte b))
means_old opens place Percents d piece h = rw h (literal_old opens literal.Percent)
means_old opens place (Plain o b) d piece (letter, c, e, is, takes, told) =
    let base = found (λ b l. LetterHas IsOfOne l) (letters One) (assumption) b letter e in
    rw told (grind (arith, takes, base))
means_old opens place (Bracket o list) d piece (c, members, is, set, takes, told) = rw (told, takes) tt
means_old opens place _ d piece h = absurd h

pub one_has_old_bases : OneHasOldBases
one_has_old_bases text ds (pieces, is, e, mean) = mean_each (DirectiveHas IsOfOne) means_old false 1 pieces ds is.each mean

pub two_spells_one : TwoSpellsOne
two_spells_one text ds h =
    spells_through (Scan One) (Scan Two) (Means One) (Means Two) (directive_with base_in_two) (DirectiveHas IsOfOne)
    (scan_part One Two base_in_two IsOfOne marks in_two) (λ pieces ds is mean has. unmarked_below One pieces refl is)
    text ds h (one_has_old_bases text ds h)
  where
    marks : (mark : Bool) → MayMark One Two mark
    marks mark h e = h e

    in_two : (b : ℕ) (letter : Letter) → letter_of One b ≡ Some letter → LetterHas IsOfOne letter
        → letter_of Two b ≡ Some (letter_with base_in_two letter)
    in_two b letter e =
        found (λ b l. LetterHas IsOfOne l → letter_of Two b ≡ Some (letter_with base_in_two l)) (letters One) (assumption) b letter e

pub one_spells_two : OneSpellsTwo
one_spells_two =
    spells_through (Scan Two) (Scan One) (Means Two) (Means One) (directive_with base_in_one) (DirectiveHas IsNotBin)
    (scan_part Two One base_in_one IsNotBin marks in_one) (λ pieces ds is mean has. unmarked_below Two pieces refl is)
  where
    marks : (mark : Bool) → MayMark Two One mark
    marks mark h e = h e

    no_bin : IsNotBin Bin → letter_of One 98 ≡ Some (letter_with base_in_one (scan.Unsigned Bin))
    no_bin h = absurd h

    in_one : (b : ℕ) (letter : Letter) → letter_of Two b ≡ Some letter → LetterHas IsNotBin letter
        → letter_of One b ≡ Some (letter_with base_in_one letter)
    in_one b letter e =
        found (λ b l. LetterHas IsNotBin l → letter_of One b ≡ Some (letter_with base_in_one l)) (letters Two)
        (assumption no_bin) b letter e

-- ---- what is of profile 3 alone

-- the shape of a letter is strict where its opening has the !
strict_shape : (letter : Letter) (o : Opening) (s : Shape) → SuitsMark letter o → shape_of letter o.strict s → is_strict s ≡ o.strict
strict_shape letter o s suits takes = grind (arith, suits, takes)

or_none : (v : Bool) → (v || false) ≡ v
or_none v = grind arith

-- a part in another profile, which has its letter, its ?, its = and its !
part_in : (p q : Profile) (P : Directive → Type 0)
    → ((b : ℕ) (letter : Letter) (c : Conversion) (strict : Bool) → letter_of p b ≡ Some letter → shape_of letter strict c.shape
    → P (Conv c) → letter_of q b ≡ Some letter)
    → ((c : Conversion) → P (Conv c) → MarksOf p q c)
    → (place : ℕ) (piece : Piece) (d : Directive) → IsScanPiece p piece → Means p None place piece d → P d
    → IsScanPiece q piece × Means q None place piece d
part_in p q P in_other marks place (Plain o b) d (plain, (l, known, suits)) (letter, c, e, is, takes, told) has =
    let same : l ≡ letter = let both = sym known ∙ e in cc in
    let of_c = rw told at has in
    let there = in_other b letter c o.strict e takes of_c in
    let suit = rw same at suits in
    let mark : MarksMay p q o = (
      subst (MayMark p q) (is.optional ∙ or_none o.optional) (marks c of_c).0,
      subst (MayMark p q) is.column (marks c of_c).1,
      subst (MayMark p q) (strict_shape letter o c.shape suit.mark takes) (marks c of_c).2,
    ) in
    ((plain, (letter, there, suits_in p q letter o mark suit)), (letter, c, there, is, takes, told))
part_in p q P in_other marks place (Bracket o list) d (suits, is_list) (c, members, is, set, takes, told) has =
    let of_c = rw told at has in
    let strict : is_strict c.shape ≡ o.strict = rw (takes, suits.mark) refl in
    let mark : MarksMay p q o = (
      subst (MayMark p q) (is.optional ∙ or_none o.optional) (marks c of_c).0,
      subst (MayMark p q) is.column (marks c of_c).1,
      subst (MayMark p q) strict (marks c of_c).2,
    ) in
    ((suits_in p q scan.Set o mark suits, is_list), (c, members, is, set, takes, told))
part_in p q P in_other marks place GroupStart d is h has = absurd h
part_in p q P in_other marks place GroupEnd d is h has = absurd h
part_in p q P in_other marks place _ d is h has = (is, h)

spells_in : (p q : Profile) (P : Directive → Type 0)
    → ((b : ℕ) (letter : Letter) (c : Conversion) (strict : Bool) → letter_of p b ≡ Some letter → shape_of letter strict c.shape
    → P (Conv c) → letter_of q b ≡ Some letter)
    → ((c : Conversion) → P (Conv c) → MarksOf p q c)
    → ((pieces : List Piece) (ds : List Directive) → IsFormat (Scan p) pieces → MeanAll (Means p) false 1 pieces ds → AllByRecursion P ds
    → Unmarked pieces)
    → (text : List ℕ) (ds : List Directive) → SpellsAs (Scan p) (Means p) text ds → AllByRecursion P ds
    → SpellsAs (Scan q) (Means q) text ds
spells_in p q P in_other marks unmarked text ds h has =
    rw (map-id ds) at (spells_through (Scan p) (Scan q) (Means p) (Means q) (λ d. d) P (part_in p q P in_other marks) unmarked
    text ds h has)

abbrev IsNoFloatLetter : Letter → Type 0
IsNoFloatLetter scan.Float = ⊥
IsNoFloatLetter l = Unit {0}

no_float_shape : (letter : Letter) (strict : Bool) (s : Shape) → shape_of letter strict s → IsNoFloatLetter letter → IsNoFloat s
no_float_shape (scan.Signed base) strict s h is = rw h tt
no_float_shape (scan.Unsigned base) strict s h is = rw h tt
no_float_shape scan.Chars strict s h is = rw h tt
no_float_shape scan.Text strict s h is = rw h tt
no_float_shape scan.Count strict s h is = rw h tt
no_float_shape scan.Float strict s h is = absurd is
no_float_shape scan.Set strict s h is = absurd h

no_float_letter : (letter : Letter) (strict : Bool) (s : Shape) → shape_of letter strict s → IsNoFloat s → IsNoFloatLetter letter
no_float_letter scan.Float strict s h is = rw h at is
no_float_letter _ strict s h is = tt

-- no ?, no = and no ! without the profile that has them
unmarked : (mark : Bool) → (mark ≡ true → has_doubles Two ≡ true) → mark ≡ false
unmarked true h = sym (h refl)
unmarked false h = refl

means_of_two : (place : ℕ) (piece : Piece) (d : Directive) → IsScanPiece Two piece → Means Two None place piece d → IsOfTwo d
means_of_two place (Plain o b) d (plain, (l, known, suits)) (letter, c, e, is, takes, told) =
    let same : l ≡ letter = let both = sym known ∙ e in cc in
    let no_float = found (λ b l. IsNoFloatLetter l) (letters Two) (assumption) b letter e in
    let strict = strict_shape letter o c.shape (rw same at suits.mark) takes in
    rw told (
      no_float_shape letter o.strict c.shape takes no_float,
      is.optional ∙ or_none o.optional ∙ unmarked o.optional suits.optional,
      is.column ∙ unmarked o.column suits.column,
      strict ∙ unmarked o.strict suits.strict,
    )
means_of_two place (Bracket o list) d (suits, is_list) (c, members, is, set, takes, told) =
    rw (told, takes) (
      tt,
      is.optional ∙ or_none o.optional ∙ unmarked o.optional suits.optional,
      is.column ∙ unmarked o.column suits.column,
      refl,
    )
means_of_two place GroupStart d piece h = absurd h
means_of_two place GroupEnd d piece h = absurd h
means_of_two place _ d piece h = rw h tt

-- what each part stands for outside a group
mean_plain : (place : ℕ) (pieces : List Piece) (ds : List Directive) → Unmarked pieces → AllByRecursion (IsScanPiece Two) pieces
    → MeanAll (Means Two) false place pieces ds → AreOfTwo ds
mean_plain place [] [] none each h = tt
mean_plain place (GroupStart ∷ pieces) ds none each h = absurd (let e = none.0 in cc)
mean_plain place (GroupEnd ∷ pieces) ds none each h = absurd (let e = none.0 in cc)
mean_plain place (piece ∷ pieces) (d ∷ ds) none each h = (
  means_of_two place piece d each.0 h.0,
  mean_plain (place + length (destinations (piece ∷ []))) pieces ds none.1 each.1 h.1,
)
mean_plain place _ _ none each h = absurd h

-- a group that is closed has an end
closes : (pieces : List Piece) → AreGrouped Inside pieces → stage_after Inside pieces ≡ Outside → (k : ℕ) × (left_in pieces ≡ Some k)
closes [] grouped after = absurd (cc)
closes (GroupStart ∷ pieces) grouped after = absurd (let h = grouped.0 in cc)
closes (GroupEnd ∷ pieces) grouped after = (0, refl)
closes (piece ∷ pieces) grouped after =
    let next = next_inside (role_of piece) (role_directive piece refl) in
    let later = closes pieces (rw next at grouped.1) (rw next at after) in
    (suc later.0, ap (option_map suc) later.1)

or_true : (v : Bool) → (v || true) ≡ true
or_true v = grind arith

-- the first directive of a group is not of profile 2
opener_of : (place k : ℕ) (piece : Piece) (d : Directive) → may_stand First (role_of piece) ≡ true → Means Three (Some k) place piece d
    → IsOfTwo d → ⊥
opener_of place k (WhiteSpace bs) d may h of_two = cc
opener_of place k (Ordinary b) d may h of_two = rw h at of_two
opener_of place k Percents d may h of_two = rw h at of_two
opener_of place k (Plain o b) d may (letter, c, e, is, takes, told) of_two =
    let none = rw told at of_two in let f = sym (is.optional ∙ or_true o.optional) ∙ none.1 in absurd (cc)
opener_of place k (Bracket o list) d may (c, members, is, set, takes, told) of_two =
    let none = rw told at of_two in let f = sym (is.optional ∙ or_true o.optional) ∙ none.1 in absurd (cc)
opener_of place k _ d may h of_two = h

no_group : (place : ℕ) (pieces : List Piece) (ds : List Directive) → MeanAll (Means Three) true place pieces ds → AreGrouped First pieces
    → stage_after First pieces ≡ Outside → AreOfTwo ds → ⊥
no_group place [] ds h grouped after has = absurd (cc)
no_group place (GroupStart ∷ pieces) ds h grouped after has = absurd (let f = grouped.0 in cc)
no_group place (GroupEnd ∷ pieces) ds h grouped after has = absurd (let f = grouped.0 in cc)
no_group place (piece ∷ pieces) (d ∷ ds) h grouped after has =
    let next = next_first (role_of piece) (role_directive piece refl) in
    let end = closes pieces (rw next at grouped.1) (rw next at after) in
    opener_of place end.0 piece d grouped.0 (subst (λ opens. Means Three opens place piece d) end.1 h.0) has.0
no_group place _ _ h grouped after has = absurd h

no_groups : (place : ℕ) (pieces : List Piece) (ds : List Directive) → MeanAll (Means Three) false place pieces ds
    → AreGrouped Outside pieces → stage_after Outside pieces ≡ Outside → AreOfTwo ds → Unmarked pieces
no_groups place [] ds h grouped after has = tt
no_groups place (GroupStart ∷ pieces) ds h grouped after has = absurd (no_group place pieces ds h grouped.1 after has)
no_groups place (GroupEnd ∷ pieces) ds h grouped after has = absurd (let f = grouped.0 in cc)
no_groups place (piece ∷ pieces) (d ∷ ds) h grouped after has =
    let next = next_outside (role_of piece) (role_directive piece refl) in
    (refl, no_groups (place + length (destinations (piece ∷ []))) pieces ds h.1 (rw next at grouped.1) (rw next at after) has.1)
no_groups place _ _ h grouped after has = absurd h

pub three_spells_two : ThreeSpellsTwo
three_spells_two text ds h =
    let (pieces, is, e, mean) = h in
    let unmarked = unmarked_below Two pieces refl is in
    let old = mean_plain 1 pieces ds unmarked is.each mean in (
      spells_in Two Three IsOfTwo in_three (λ c has. (λ h f. refl, λ h f. refl, λ h f. refl))
          (λ pieces ds is mean has. unmarked_below Two pieces refl is) text ds h old,
      old,
    )
  where
    in_three : (b : ℕ) (letter : Letter) (c : Conversion) (strict : Bool) → letter_of Two b ≡ Some letter
        → shape_of letter strict c.shape → IsOfTwo (Conv c) → letter_of Three b ≡ Some letter
    in_three b letter c strict e takes has = found (λ b l. letter_of Three b ≡ Some l) (letters Two) (assumption) b letter e

pub two_spells_three : TwoSpellsThree
two_spells_three =
    spells_in Three Two IsOfTwo in_two (λ c has. (none c.optional has.1, none c.column has.2, none (is_strict c.shape) has.3))
    (λ pieces ds is mean has. no_groups 1 pieces ds mean is.grouped is.closed has)
  where
    none : (mark : Bool) → mark ≡ false → MayMark Three Two mark
    none mark e h f = let g = sym e ∙ f in cc

    no_float : (b : ℕ) → IsNoFloatLetter scan.Float → letter_of Two b ≡ Some scan.Float
    no_float b h = absurd h

    in_two : (b : ℕ) (letter : Letter) (c : Conversion) (strict : Bool) → letter_of Three b ≡ Some letter
        → shape_of letter strict c.shape → IsOfTwo (Conv c) → letter_of Two b ≡ Some letter
    in_two b letter c strict e takes has =
        found (λ b l. IsNoFloatLetter l → letter_of Two b ≡ Some l) (letters Three)
        (assumption (no_float 97, no_float 65, no_float 101, no_float 69, no_float 102, no_float 70, no_float 103, no_float 71)) b letter e
        (no_float_letter letter strict c.shape takes has.0)

-- ---- print formats

print_part : (p q : Profile) (P : PrintLetter → Type 0)
    → ((b : ℕ) (letter : PrintLetter) → print_letter_of p b ≡ Some letter → P letter → print_letter_of q b ≡ Some letter)
    → (place : ℕ) (piece : Piece) (u : PrintUnit) → IsPrintPiece p piece → Prints p place piece u → UnitHas P u
    → IsPrintPiece q piece × Prints q place piece u
print_part p q P in_other place (Ordinary b) u is h has = (is, h)
print_part p q P in_other place Percents u is h has = (is, h)
print_part p q P in_other place (Plain o b) u (letter, e, suits) (l, c, f, is, told) has =
    let same : letter ≡ l = let both = sym e ∙ f in cc in
    let there = in_other b l f (rw (told, is.prints) at has) in
    ((l, there, rw same at suits), (l, c, there, is, told))
print_part p q P in_other place _ u is h has = absurd is

prints_so : (p : Profile) (P : PrintLetter → Type 0)
    → ((b : ℕ) (letter : PrintLetter) → print_letter_of p b ≡ Some letter → P letter)
    → (place : ℕ) (piece : Piece) (u : PrintUnit) → IsPrintPiece p piece → Prints p place piece u → UnitHas P u
prints_so p P each place (Ordinary b) u piece h = rw h tt
prints_so p P each place Percents u piece h = rw h tt
prints_so p P each place (Plain o b) u piece (letter, c, e, is, told) = rw (told, is.prints) (each b letter e)
prints_so p P each place _ u piece h = absurd h

print_through : (p q : Profile) (P : PrintLetter → Type 0)
    → ((b : ℕ) (letter : PrintLetter) → print_letter_of p b ≡ Some letter → P letter → print_letter_of q b ≡ Some letter)
    → (text : List ℕ) (us : List PrintUnit) → SpellsAs (Print p) (PrintsApart p) text us → AllByRecursion (UnitHas P) us
    → SpellsAs (Print q) (PrintsApart q) text us
print_through p q P in_other text us h has =
    rw (map-id us) at (spells_through (Print p) (Print q) (PrintsApart p) (PrintsApart q) (λ u. u) (UnitHas P)
    (print_part p q P in_other)
    (λ pieces us is mean has. all_map (IsPrintPiece p) (λ piece. is_mark piece ≡ false) (unmarked_unit p) pieces is.each) text us h has)

pub two_prints_one : TwoPrintsOne
two_prints_one text us h =
    let (pieces, is, e, mean) = h in
    let old = mean_each (UnitHas IsNotBinary) (λ opens. prints_so One IsNotBinary not_binary) false 1 pieces us is.each mean in
    (print_through One Two IsNotBinary in_two text us h old, old)
  where
    not_binary : (b : ℕ) (letter : PrintLetter) → print_letter_of One b ≡ Some letter → IsNotBinary letter
    not_binary b letter e = printed (λ b l. IsNotBinary l) (print_letters One) (assumption) b letter e

    in_two : (b : ℕ) (letter : PrintLetter) → print_letter_of One b ≡ Some letter → IsNotBinary letter → print_letter_of Two b ≡ Some letter
    in_two b letter e = printed (λ b l. IsNotBinary l → print_letter_of Two b ≡ Some l) (print_letters One) (assumption) b letter e

pub one_prints_two : OnePrintsTwo
one_prints_two = print_through Two One IsNotBinary in_one
  where
    no_binary : IsNotBinary Binary → print_letter_of One 98 ≡ Some Binary
    no_binary h = absurd h

    in_one : (b : ℕ) (letter : PrintLetter) → print_letter_of Two b ≡ Some letter → IsNotBinary letter → print_letter_of One b ≡ Some letter
    in_one b letter e =
        printed (λ b l. IsNotBinary l → print_letter_of One b ≡ Some l) (print_letters Two) (assumption no_binary) b letter e

pub three_prints_two : ThreePrintsTwo
three_prints_two text us h =
    let (pieces, is, e, mean) = h in
    let old = mean_each (UnitHas IsNotFloat) (λ opens. prints_so Two IsNotFloat no_float) false 1 pieces us is.each mean in
    (print_through Two Three IsNotFloat in_three text us h old, old)
  where
    no_float : (b : ℕ) (letter : PrintLetter) → print_letter_of Two b ≡ Some letter → IsNotFloat letter
    no_float b letter e = printed (λ b l. IsNotFloat l) (print_letters Two) (assumption) b letter e

    in_three : (b : ℕ) (letter : PrintLetter) → print_letter_of Two b ≡ Some letter → IsNotFloat letter
        → print_letter_of Three b ≡ Some letter
    in_three b letter e = printed (λ b l. IsNotFloat l → print_letter_of Three b ≡ Some l) (print_letters Two) (assumption) b letter e

pub two_prints_three : TwoPrintsThree
two_prints_three = print_through Three Two IsNotFloat in_two
  where
    no_float : (b : ℕ) (style : FloatStyle) (upper : Bool) → IsNotFloat (Float style upper)
        → print_letter_of Two b ≡ Some (Float style upper)
    no_float b style upper h = absurd h

    in_two : (b : ℕ) (letter : PrintLetter) → print_letter_of Three b ≡ Some letter → IsNotFloat letter
        → print_letter_of Two b ≡ Some letter
    in_two b letter e =
        printed (λ b l. IsNotFloat l → print_letter_of Two b ≡ Some l) (print_letters Three)
        (assumption (
          no_float 102 Fixed false,
          no_float 70 Fixed true,
          no_float 101 Exponent false,
          no_float 69 Exponent true,
          no_float 103 General false,
          no_float 71 General true,
          no_float 97 Hexadecimal false,
          no_float 65 Hexadecimal true,
        )) b letter e
