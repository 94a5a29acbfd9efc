-- How a text is cut where a part of a format begins.
use Rattle.std.specs.Prelude.{ℕ, Bool, false, List, [], ◌∷◌, length, drop, nat_eq, if◌then◌else◌, Option, Some, None, unwrap_or}
use Rattle.std.specs.Prelude.{codes}
use Prim.Native.Char.{code}
use Rattle.sf_base.specs.Bytes.{is_white}
use Rattle.sf_format.specs.Digits.{is_decimal}
use Rattle.sf_format.specs.Lists.{front, behind, begins, mark_at}
use Rattle.sf_format.specs.declared.letter.Length.{Length}
use Rattle.sf_format.specs.declared.letter.Length.TheVariants.{NoLength, HH, H, LL, L, J, Z, T}
use Rattle.sf_format.specs.Letters.{has_doubles, length_text}
use Rattle.sf_format.specs.declared.directive.Profile.{Profile}
use Rattle.sf_format.specs.Scanlist.{Scanlist, is_inner}
use Rattle.sf_format.specs.Language.{Language, Scan, Print}
use Rattle.sf_format.specs.PrintLetters.{is_flag}
use Rattle.sf_format.specs.Pieces.{Opening, Piece, WhiteSpace, Ordinary, Percents, Plain, Bracket, GroupStart, GroupEnd}

-- ---- a conversion specification up to its letter

-- digits are a number if $ follows them
abbrev pub number_before : List ℕ → List ℕ → List ℕ → List ℕ × List ℕ
number_before [] after x = ([], x)
number_before (d ∷ ds) [] x = ([], x)
number_before (d ∷ ds) (b ∷ after) x = if nat_eq b (code "$") then (d ∷ ds, after) else ([], x)

-- the number that the text begins with, and what follows its $
abbrev pub number_at : List ℕ → List ℕ × List ℕ
number_at x = number_before (front is_decimal x) (behind is_decimal x) x

abbrev pub first_length : List Length → List ℕ → Length
first_length [] x = NoLength
first_length (size ∷ sizes) x = if begins (length_text size) x then size else first_length sizes x

-- the longest length that stands there
abbrev pub length_at : List ℕ → Length
length_at x = first_length (HH ∷ H ∷ LL ∷ L ∷ J ∷ Z ∷ T ∷ []) x

-- the precision that the text begins with, if the point stands there, and what follows it
abbrev pub precision_behind : Bool × List ℕ → Option (List ℕ) × List ℕ
precision_behind point = if point.0 then (Some (front is_decimal point.1), behind is_decimal point.1) else (None, point.1)

abbrev pub precision_at : List ℕ → Option (List ℕ) × List ℕ
precision_at x = precision_behind (mark_at (code ".") x)

-- whether the mark, ? or = or !, stands there and the profile has it, and what follows it
abbrev pub mark_of_three : Profile → ℕ → List ℕ → Bool × List ℕ
mark_of_three profile b x = if has_doubles profile then mark_at b x else (false, x)

-- the marks ?, = and !, and what follows them
abbrev pub marks_of_three : Profile → List ℕ → Bool × Bool × Bool × List ℕ
marks_of_three profile x =
    let optional = mark_of_three profile (code "?") x in
    let column = mark_of_three profile (code "=") optional.1 in
    let strict = mark_of_three profile (code "!") column.1 in
    (optional.0, column.0, strict.0, strict.1)

-- the parts of a specification up to where its letter is due, and the rest
pub record Cut : Type 0 where
  pub opening : Opening
  pub rest : List ℕ

-- what follows the precision, with the parts before it
abbrev pub cut_length : List ℕ → Bool → Bool → Bool → Bool → List ℕ → List ℕ → Option (List ℕ) × List ℕ → Cut
cut_length number star optional column strict flags width precision = record {
  opening = record {
    number = number;
    star = star;
    optional = optional;
    column = column;
    strict = strict;
    flags = flags;
    width = width;
    precision = precision.0;
    size = length_at precision.1;
  };
  rest = drop (length (length_text (length_at precision.1))) precision.1;
}

-- what follows a %: scan formats have no flags and no precision, print formats no star and no ?, = and !;
-- a 0 that begins no number is a flag
abbrev pub cut : Language → List ℕ → Cut
cut (Scan profile) x =
    let number = number_at x in
    let star = mark_at (code "*") number.1 in
    let optional = mark_of_three profile (code "?") star.1 in
    let column = mark_of_three profile (code "=") optional.1 in
    let strict = mark_of_three profile (code "!") column.1 in
    cut_length number.0 star.0 optional.0 column.0 strict.0 [] (front is_decimal strict.1) (None, behind is_decimal strict.1)
cut (Print profile) x =
    let number = number_at x in
    let wide = behind is_flag number.1 in
    cut_length number.0 false false false false (front is_flag number.1) (front is_decimal wide) (precision_at (behind is_decimal wide))

-- ---- a scanlist

-- its members, which begin after the ^
abbrev pub members_at : List ℕ → List ℕ
members_at [] = []
members_at (b ∷ x) = b ∷ front is_inner x

-- what follows the members: nothing, or the ] that closes them
abbrev pub close_at : List ℕ → List ℕ
close_at [] = []
close_at (b ∷ x) = behind is_inner x

abbrev pub list_of : Bool → List ℕ → Scanlist
list_of complemented [] = record { complemented = complemented; first = 0; others = [] }
list_of complemented (b ∷ x) = record { complemented = complemented; first = b; others = front is_inner x }

-- ---- a part, and what follows it

pub record Part : Type 0 where
  pub piece : Piece
  pub rest : List ℕ

abbrev pub bracket_at : Opening → Bool × List ℕ → Part
bracket_at o x = record { piece = Bracket o (list_of x.0 x.1); rest = drop 1 (close_at x.1) }

-- from the letter on
abbrev pub letter_at : Opening → List ℕ → Part
letter_at o [] = record { piece = Percents; rest = [] }
letter_at o (letter ∷ x) =
    if nat_eq letter (code "[") then bracket_at o (mark_at (code "^") x) else record { piece = Plain o letter; rest = x }

-- after a % that no other follows
abbrev pub conversion_at : Language → List ℕ → Part
conversion_at language x = letter_at (cut language x).opening (cut language x).rest

-- the formats that have groups
abbrev pub has_groups : Language → Bool
has_groups (Scan profile) = has_doubles profile
has_groups (Print profile) = false

-- the mark of a group after its %, if one stands there
abbrev pub group_mark : List ℕ → Option Part
group_mark x =
    if begins (codes "?(") x then Some (record { piece = GroupStart; rest = drop 2 x })
    else if begins (codes ")") x then Some (record { piece = GroupEnd; rest = drop 1 x })
    else None

-- the part after its % that is no conversion specification, if one stands there: %%, or the mark of a group
abbrev pub short_part : Language → List ℕ → Option Part
short_part language x =
    if begins (codes "%") x then Some (record { piece = Percents; rest = drop 1 x })
    else if has_groups language then group_mark x
    else None

-- after a %
abbrev pub specification_at : Language → List ℕ → Part
specification_at language x = unwrap_or (short_part language x) (conversion_at language x)

-- white space runs together in scan formats alone
abbrev pub joins_run : Language → ℕ → Bool
joins_run (Scan profile) b = is_white b
joins_run (Print profile) b = false

-- the part that a text without a fault there begins with; what it is elsewhere has no meaning
abbrev pub part_at : Language → List ℕ → Part
part_at language [] = record { piece = Percents; rest = [] }
part_at language (b ∷ x) =
    if joins_run language b then record { piece = WhiteSpace (front is_white (b ∷ x)); rest = behind is_white (b ∷ x) }
    else if nat_eq b (code "%") then specification_at language x
    else record { piece = Ordinary b; rest = x }
