-- What holds of the directives of each spelled scan format, and of the units of each print format.
use Rattle.std.proofs.Common.{◌≡◌, ◌≢◌, ℕ, ◌<◌, Bool, true, false, List, [], ◌∷◌, Option, None, refl, lit<, arith, Some, ◌≤◌, sym, ◌∙◌}
use Rattle.std.proofs.lemmas.Bool.Decides.{nat_tests}
use Rattle.std.specs.Prelude.{IsSome, is_some, length, ◌+◌, ◌||◌}
use Rattle.std.specs.List.{AllByRecursion}
use Rattle.sf_format.specs.Scanlist.{Scanlist, IsScanlist, is_listed, is_chosen, is_member, backward_range}
use Rattle.sf_base.specs.declared.values.Kind.{Kind}
use Rattle.sf_format.specs.declared.directive.Profile.{Profile}
use Rattle.sf_format.specs.declared.directive.Shape.{Shape}
use Rattle.sf_format.specs.declared.directive.Directive.{Directive}
use Rattle.sf_format.specs.declared.directive.Literal.{Literal}
use Rattle.sf_format.specs.declared.directive.Literal.TheVariants as literal
use Rattle.sf_format.specs.Language.{Scan, Print}
use Rattle.sf_format.specs.declared.letter.Letter.{Letter}
use Rattle.sf_format.specs.declared.letter.Letter.TheVariants.{Signed, Unsigned, Chars, Text, Set, Count, Float}
use Rattle.sf_format.specs.declared.letter.Length.{Length}
use Rattle.sf_format.specs.Letters.{kind_of, has_doubles}
use Rattle.sf_format.specs.Digits.{IsOptionalNumber, optional_number}
use Rattle.sf_format.specs.Pieces.{Opening, Piece, WhiteSpace, Ordinary, Plain, Bracket, Percents, GroupStart, GroupEnd}
use Rattle.sf_format.specs.Grammar.{IsScanPiece, SuitsColumn, shape_of, width_of, literal_that, destinations, Means, MeanAll, Spells}
use Rattle.sf_format.specs.Grammar.{SpellsPrint}
use Rattle.sf_format.specs.Proper.{HasItsKind, IsKinded, HasItsWidth, IsSized, IsProperShape, IsProperWidth, IsProperLiteral, IsProper}
use Rattle.sf_format.specs.Proper.{AreProper, AreSized, AreKinded, TakesColumn, IsColumned, AreColumned, IsAccepted}
use Rattle.sf_format.specs.Proper.{is_opener, is_optional, has_group, has_optional}
use Rattle.sf_format.proofs.Suits.{text_kinded, float_kinded}
use Rattle.sf_format.proofs.Meanings.{scan_slots, mean_each, print_slots}
use Rattle.sf_format.proofs.PartSlots.{all_short, format_few, slots_good, slots_count}
use Rattle.sf_base.specs.Bytes.{magnitude}
use Rattle.sf_format.specs.declared.unit.PrintLetter.{PrintLetter}
use Rattle.sf_format.specs.declared.unit.PrintConv.{PrintConv}
use Rattle.sf_format.specs.declared.unit.Unit.{Unit as PrintUnit}
use Rattle.sf_format.specs.Units.{has_flag, IsProperConv, IsProperUnit, AreAccepted}
use Rattle.sf_format.specs.PrintGrammar.{SuitsPrint, IsPrintPiece, is_set_flag, IsPrintConv, Prints, PrintsApart}

-- the first member is listed
first_listed : (n : ℕ) (first : ℕ) (others : List ℕ) → backward_range n (first ∷ others) ≡ None → is_listed (first ∷ others) first ≡ true
first_listed n first [] e = grind (arith, nat_tests)
first_listed n first (dash ∷ []) e = grind (arith, nat_tests)
first_listed n first (dash ∷ high ∷ rest) e = grind (arith, nat_tests)

nul_not_listed : (xs : List ℕ) → AllByRecursion (λ x. x ≢ 0) xs → is_listed xs 0 ≡ false
nul_not_listed [] h = refl
nul_not_listed (a ∷ []) h = grind (arith, nat_tests)
nul_not_listed (a ∷ b ∷ []) h = grind (arith, nat_tests)
nul_not_listed (a ∷ b ∷ c ∷ xs) h = grind (arith, nat_tests, nul_not_listed xs h.1.1.1, nul_not_listed (b ∷ c ∷ xs) h.1)

pub some_member : (list : Scanlist) → IsScanlist list → list.first < 256 → (b : ℕ) × (b < 256) × (is_member list b ≡ true)
some_member list is byte =
    by_caret list.complemented (nul_not_listed (list.first ∷ list.others) is.no_nul) (first_listed 0 list.first list.others is.forward)
  where
    by_caret : (v : Bool) → is_listed (list.first ∷ list.others) 0 ≡ false → is_listed (list.first ∷ list.others) list.first ≡ true
        → (b : ℕ) × (b < 256) × (is_chosen v (list.first ∷ list.others) b ≡ true)
    by_caret true none some = (0, lit< tt, rw none)
    by_caret false none some = (list.first, byte, some)

-- ---- each directive

plain_good : (letter : Letter) (strict : Bool) (s : Shape) (ds : List ℕ) (size : Length) (k : Kind) → shape_of letter strict s
    → kind_of letter size ≡ Some k → IsOptionalNumber 65535 ds → let width = width_of letter ds in
    IsProperShape s × IsProperWidth width × HasItsWidth s width × HasItsKind s k
plain_good letter strict s ds size k h is number = grind (arith, text_kinded size k, float_kinded size k)

some_number : (ds : List ℕ) → ds ≢ [] → IsSome (optional_number ds)
some_number [] h = absurd (h refl)
some_number (d ∷ ds) h = refl

column_good : (letter : Letter) (o : Opening) (s : Shape) → SuitsColumn letter o → shape_of letter o.strict s → o.column ≡ true
    → IsSome (width_of letter o.width) × TakesColumn s
column_good (Signed base) o s suits takes e = (some_number o.width (suits e), rw takes tt)
column_good (Unsigned base) o s suits takes e = (some_number o.width (suits e), rw takes tt)
column_good Chars o s suits takes e = absurd (let f = sym suits ∙ e in cc)
column_good Text o s suits takes e = (some_number o.width (suits e), rw takes tt)
column_good Count o s suits takes e = absurd (let f = sym suits ∙ e in cc)
column_good Float o s suits takes e = (some_number o.width (suits e), rw takes tt)
column_good Set o s suits takes e = absurd takes

abbrev IsGoodDirective : Directive → Type 0
IsGoodDirective d = IsProper d × IsSized d × IsKinded d × IsColumned d

good_literal : (opens : Option ℕ) (l : Literal) → IsProperLiteral l → IsGoodDirective (literal_that opens l)
good_literal None (literal.Byte b) is = (is, tt, tt, tt)
good_literal None literal.Percent is = (tt, tt, tt, tt)
good_literal (Some more) l is = (is, tt, tt, tt)

good_one : (profile : Profile) (opens : Option ℕ) (place : ℕ) (piece : Piece) (d : Directive) → IsScanPiece profile piece
    → Means profile opens place piece d → IsGoodDirective d
good_one profile opens place (WhiteSpace bs) d is h = rw h (tt, tt, tt, tt)
good_one profile opens place (Ordinary b) d is h = rw h (good_literal opens (literal.Byte b) is.0)
good_one profile opens place Percents d is h = rw h (good_literal opens literal.Percent tt)
good_one profile opens place (Plain o b) d is h =
    let same : is.1.0 ≡ h.0 = let e = sym is.1.1 ∙ h.2 in cc in
    let placed = rw same at is.1.2.placed in
    let good = plain_good h.0 o.strict h.1.shape o.width o.size h.1.kind h.4 h.3.kind is.1.2.width in
    rw (h.5, h.3.width)
    ((good.0, good.1), good.2, good.3, λ e. column_good h.0 o h.1.shape placed h.4 (sym h.3.column ∙ e))
good_one profile opens place (Bracket o list) d is h =
    let m = some_member list is.1 is.1.bytes.0 in
    rw (h.5, h.2.width, h.4) (
      ((m.0, m.1, rw (h.3.1 m.0 m.1) m.2), grind (arith, is.0.width)),
      tt,
      text_kinded o.size h.0.kind h.2.kind,
      λ e. (some_number o.width (is.0.placed (sym h.2.column ∙ e)), tt),
    )
good_one profile opens place _ d is h = absurd h

all_good : (ds : List Directive) → AllByRecursion IsGoodDirective ds → AreProper ds × AreSized ds × AreKinded ds × AreColumned ds
all_good [] h = (tt, tt, tt, tt)
all_good (d ∷ ds) h = let rest = all_good ds h.1 in ((h.0.0, rest.0), (h.0.1, rest.1), (h.0.2, rest.2), (h.0.3, rest.3))

pub proper : (profile : Profile) (text : List ℕ) (ds : List Directive) → Spells profile text ds → IsAccepted ds
proper profile text ds (pieces, is, e, means) =
    let good = all_good ds (mean_each IsGoodDirective (good_one profile) false 1 pieces ds is.each means) in
    record {
      proper = good.0;
      sized = good.1;
      kinded = good.2;
      columns = good.3;
      short = omega (arith, all_short (Scan profile) (Means profile) false 1 pieces ds is.each means, is.short);
      few = omega (arith, slots_count (scan_slots profile) pieces ds means, format_few (Scan profile) pieces is);
      slots = slots_good (scan_slots profile) pieces ds is means;
    }

-- ---- groups

-- what opens a group may be missing
abbrev MissesWithGroup : Directive → Type 0
MissesWithGroup d = is_opener d ≡ true → is_optional d ≡ true

or_later : (a b : Bool) → b ≡ true → (a || b) ≡ true
or_later true b e = refl
or_later false b e = e

misses_literal : (opens : Option ℕ) (l : Literal) → MissesWithGroup (literal_that opens l)
misses_literal None (literal.Byte b) = λ e. e
misses_literal None literal.Percent = λ e. e
misses_literal (Some more) l = λ e. refl

misses_one : (profile : Profile) (opens : Option ℕ) (place : ℕ) (piece : Piece) (d : Directive) → IsScanPiece profile piece
    → Means profile opens place piece d → MissesWithGroup d
misses_one profile opens place (WhiteSpace bs) d is h = rw h (λ e. e)
misses_one profile opens place (Ordinary b) d is h = rw h (misses_literal opens (literal.Byte b))
misses_one profile opens place Percents d is h = rw h (misses_literal opens literal.Percent)
misses_one profile opens place (Plain o b) d is h =
    rw (h.5, h.3.opens, h.3.optional) (λ e. or_later o.optional (is_some opens) e)
misses_one profile opens place (Bracket o list) d is h =
    rw (h.5, h.2.opens, h.2.optional) (λ e. or_later o.optional (is_some opens) e)
misses_one profile opens place _ d is h = absurd h

either : (a b p q : Bool) → (a ≡ true → p ≡ true) → (b ≡ true → q ≡ true) → (a || b) ≡ true → (p || q) ≡ true
either true b p q f g e = rw (f refl) refl
either false b p q f g e = or_later p q (g e)

misses_some : (ds : List Directive) → AllByRecursion MissesWithGroup ds → has_group ds ≡ true → has_optional ds ≡ true
misses_some [] h e = e
misses_some (d ∷ ds) h e = either (is_opener d) (has_group ds) (is_optional d) (has_optional ds) h.0 (misses_some ds h.1) e

never : (a : Bool) → (a ≡ true → ⊥) → a ≡ false
never true h = absurd (h refl)
never false h = refl

-- so a format of which nothing may be missing has no group
pub no_group : (profile : Profile) (text : List ℕ) (ds : List Directive) → Spells profile text ds → has_optional ds ≡ false
    → has_group ds ≡ false
no_group profile text ds (pieces, is, e, means) none =
    never (has_group ds) (λ some.
    let misses = mean_each MissesWithGroup (misses_one profile) false 1 pieces ds is.each means in
    let f = sym (misses_some ds misses some) ∙ none in
    cc)

-- ---- below profile 3

lacks_mark : (v a : Bool) → (a ≡ true → v ≡ true) → v ≡ false → a ≡ false
lacks_mark v true h low = absurd (let e = sym (h refl) ∙ low in cc)
lacks_mark v false h low = refl

needed_one : (profile : Profile) → has_doubles profile ≡ false → (place : ℕ) (piece : Piece) (d : Directive) → IsScanPiece profile piece
    → Means profile None place piece d → is_optional d ≡ false
needed_one profile low place (WhiteSpace bs) d is h = rw h refl
needed_one profile low place (Ordinary b) d is h = rw h refl
needed_one profile low place Percents d is h = rw h refl
needed_one profile low place (Plain o b) d is h =
    let none = lacks_mark (has_doubles profile) o.optional is.1.2.optional low in rw (h.5, h.3.optional, none) refl
needed_one profile low place (Bracket o list) d is h =
    let none = lacks_mark (has_doubles profile) o.optional is.0.optional low in rw (h.5, h.2.optional, none) refl
needed_one profile low place _ d is h = absurd h

needed_each : (profile : Profile) → has_doubles profile ≡ false → (place : ℕ) (pieces : List Piece) (ds : List Directive)
    → AllByRecursion (IsScanPiece profile) pieces → MeanAll (Means profile) false place pieces ds → has_optional ds ≡ false
needed_each profile low place [] [] each h = refl
needed_each profile low place [] (d ∷ ds) each h = absurd h
needed_each profile low place (GroupStart ∷ pieces) ds each h = absurd (let e = sym each.0 ∙ low in cc)
needed_each profile low place (GroupEnd ∷ pieces) ds each h = absurd (let e = sym each.0 ∙ low in cc)
needed_each profile low place (piece ∷ pieces) [] each h = absurd h
needed_each profile low place (piece ∷ pieces) (d ∷ ds) each h =
    rw (needed_one profile low place piece d each.0 h.0)
    (needed_each profile low (place + length (destinations (piece ∷ []))) pieces ds each.1 h.1)

-- nothing may be missing
pub all_needed : (profile : Profile) (text : List ℕ) (ds : List Directive) → Spells profile text ds → has_doubles profile ≡ false
    → has_optional ds ≡ false
all_needed profile text ds (pieces, is, e, means) low = needed_each profile low 1 pieces ds is.each means

-- ---- letters

-- a flag that the letter doesn't have is none of those that it has
unset : (letter : PrintLetter) (flag : ℕ) (flags : List ℕ) → AllByRecursion (λ b. has_flag letter b ≡ true) flags
    → has_flag letter flag ≡ false
    → is_set_flag flag flags ≡ false
unset letter flag [] had e = refl
unset letter flag (b ∷ flags) had e = grind (arith, nat_tests, unset letter flag flags had.1 e)

-- ---- units

width_within : (ds : List ℕ) → IsOptionalNumber 65535 ds → magnitude 10 ds ≤ 65535
width_within [] h = omega arith
width_within (d ∷ ds) h = h.2

proper_conversion : (place : ℕ) (o : Opening) (letter : PrintLetter) (c : PrintConv) → SuitsPrint letter o → IsPrintConv place o letter c
    → IsProperConv c
proper_conversion place o letter c suits h = record {
  kind = rw h.prints (grind (arith, h.kind));
  plus = λ e. h.plus ∙ unset letter 43 o.flags suits.had (rw h.prints at e);
  blank = λ e. h.blank ∙ unset letter 32 o.flags suits.had (rw h.prints at e);
  alt = λ e. h.alt ∙ unset letter 35 o.flags suits.had (rw h.prints at e);
  zero = λ e. h.zero ∙ unset letter 48 o.flags suits.had (rw h.prints at e);
  width = rw h.width (width_within o.width suits.width);
  precision = rw h.precision (grind (arith, suits.precision));
  one = rw (h.prints, h.precision) suits.one;
}

proper_unit : (profile : Profile) (place : ℕ) (piece : Piece) (u : PrintUnit) → IsPrintPiece profile piece → Prints profile place piece u
    → IsProperUnit u
proper_unit profile place (Ordinary b) u is h = rw h is.0
proper_unit profile place Percents u is h = rw h (omega arith)
proper_unit profile place (Plain o b) u is h =
    let same : is.0 ≡ h.0 = let e = sym is.1 ∙ h.2 in cc in
    rw h.4 (proper_conversion place o h.0 h.1 (rw same at is.2) h.3)
proper_unit profile place _ u is h = absurd is

pub print_proper : (profile : Profile) (text : List ℕ) (us : List PrintUnit) → SpellsPrint profile text us → AreAccepted us
print_proper profile text us (pieces, is, e, means) = record {
  proper = mean_each IsProperUnit (λ opens. proper_unit profile) false 1 pieces us is.each means;
  short = omega (arith, all_short (Print profile) (PrintsApart profile) false 1 pieces us is.each means, is.short);
  few = omega (arith, slots_count (print_slots profile) pieces us means, format_few (Print profile) pieces is);
  slots = slots_good (print_slots profile) pieces us is means;
}
