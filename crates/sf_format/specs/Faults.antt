-- The first fault of a text that is no format. C11 7.21.6.1p9 and 7.21.6.2p13 leave such a text undefined; here it is refused.
use Rattle.std.specs.Prelude.{◌≡◌, ℕ, ◌+◌, ◌<◌, ◌≤◌, ◌⊎◌, Bool, true, not, ◌&&◌, ◌||◌, List, [], ◌∷◌, ◌++◌, length, map}
use Rattle.std.specs.Prelude.{Option, Some, Result, Err, MatchResult, is_some, is_none, nat_eq, nat_lt, if◌then◌else◌, codes}
use Prim.Native.Char.{code}
use Rattle.std.specs.List.{AllByRecursion, list_all}
use Rattle.sf_base.specs.Bytes.{magnitude}
use Rattle.sf_format.specs.PrintGrammar.{PrintsApart}
use Rattle.sf_format.specs.declared.directive.Profile.{Profile}
use Rattle.sf_format.specs.Language.{Language, Scan, Print}
use Rattle.sf_format.specs.declared.fault.FormatFault.{FormatFault}
use Rattle.sf_format.specs.declared.fault.FormatWhy.{FormatWhy}
use Rattle.sf_format.specs.declared.fault.FormatWhy.TheVariants.{Truncated, ZeroWidth, TooWide, UnknownLetter, LeftOut, BadLength, OpenSet}
use Rattle.sf_format.specs.declared.fault.FormatWhy.TheVariants.{BackwardRange, BadCount, BadNumber, NumberTwice, NumberGap, Nul}
use Rattle.sf_format.specs.declared.fault.FormatWhy.TheVariants.{FormatTooLong, NoMemory, BadMark, BadGroup}
use Rattle.sf_format.specs.Letters.{has_doubles, letter_of}
use Rattle.sf_format.specs.PrintLetters.{print_letter_of}
use Rattle.sf_format.specs.Scanlist.{backward_range, caret_text}
use Rattle.sf_format.specs.Lists.{is_any_of, mark_at, is_written}
use Rattle.sf_format.specs.Cut.{cut, short_part, part_at, members_at, close_at}
use Rattle.sf_format.specs.Pieces.{Opening, Piece, number_text, star_text, optional_text, column_text, strict_text, opening_text}
use Rattle.sf_format.specs.Pieces.{piece_text, text_of}
use Rattle.sf_format.specs.declared.groups.Stage.TheVariants.{Outside}
use Rattle.sf_format.specs.Groups.{role_of, may_stand, stage_after, AreGrouped, last_start, place_told, is_open}
use Rattle.sf_format.specs.Grammar.{IsPiece, RunsApart, AreAlike, destinations, Means, SpellsAs}
use Rattle.sf_format.specs.Rules.{Rule, first_of, takes_text, takes_double, has_length, is_l, place_of, or_zero, slot_rules}
use Rattle.sf_format.specs.PrintRules.{print_opening_rules, print_letter_rules, flag_rules, is_other_length}

-- a letter or a length that C or POSIX has; the letters of floats are of profile 3
abbrev pub is_left_out : Profile → ℕ → Bool
is_left_out profile b = is_any_of (codes "mLpCS") b || (takes_double b && not (has_doubles profile))

-- ---- the faults inside one specification

-- the parts before the letter; p is the place of the %
abbrev pub opening_rules : Language → ℕ → Opening → List Rule
opening_rules (Scan profile) p o =
    let star_at = p + 1 + length (number_text o.number) in
    let width_at = star_at + length (star_text o.star) + length (optional_text o.optional) + length (column_text o.column)
    + length (strict_text o.strict) in
    let number = magnitude 10 o.number in
    let width = magnitude 10 o.width in
    record { why = BadNumber; applies = is_written o.number && (nat_eq number 0 || nat_lt 32 number); at = p + 1 }
    ∷ record { why = BadNumber; applies = is_written o.number && o.star; at = star_at }
    ∷ record { why = ZeroWidth; applies = is_written o.width && nat_eq width 0; at = width_at }
    ∷ record { why = TooWide; applies = nat_lt 65535 width; at = width_at }
    ∷ []
opening_rules (Print profile) p o = print_opening_rules p o

-- a column has a width, and isn't of c or n
abbrev pub bad_column : Opening → ℕ → Bool
bad_column o letter = o.column && (not (is_written o.width) || is_any_of (codes "cn") letter)

-- the letter, at q
abbrev pub letter_rules : Profile → Opening → ℕ → ℕ → List Rule
letter_rules profile o letter q =
    record { why = Nul; applies = nat_eq letter 0; at = q }
    ∷ record { why = LeftOut; applies = is_left_out profile letter; at = q }
    ∷ record { why = UnknownLetter; applies = is_none (letter_of profile letter); at = q }
    ∷ record { why = LeftOut; applies = takes_text letter && is_l o.size; at = q }
    ∷ record {
      why = BadLength;
      applies = (takes_text letter && has_length o.size) || (takes_double letter && is_other_length o.size);
      at = q;
    }
    ∷ record { why = BadCount; applies = nat_eq letter (code "n") && (o.star || is_written o.width || o.optional); at = q }
    ∷ record { why = BadMark; applies = bad_column o letter || (o.strict && is_any_of (codes "c[n") letter); at = q }
    ∷ []

-- the members of a scanlist; q is the place of the [, m that of the first member
abbrev pub member_rules : ℕ → ℕ → List ℕ → Bool → List Rule
member_rules q m members closed =
    record { why = Nul; applies = is_some (place_of 0 m members); at = or_zero (place_of 0 m members) }
    ∷ record { why = OpenSet; applies = not closed; at = q }
    ∷ record { why = BackwardRange; applies = is_some (backward_range m members); at = or_zero (backward_range m members) }
    ∷ []

-- the scanlist, where x are the bytes from the first member on
abbrev pub list_rules : ℕ → ℕ → List ℕ → List Rule
list_rules q m x = member_rules q m (members_at x) (is_written (close_at x))

abbrev pub after_caret : ℕ → Bool × List ℕ → List Rule
after_caret q x = list_rules q (q + 1 + length (caret_text x.0)) x.1

-- what follows the letter, which is a [ or isn't
abbrev pub bracket_rules : Bool → ℕ → List ℕ → List Rule
bracket_rules bracket q x = if bracket then after_caret q (mark_at (code "^") x) else []

abbrev pub scanlist_rules : ℕ → ℕ → List ℕ → List Rule
scanlist_rules letter q x = bracket_rules (nat_eq letter (code "[")) q x

-- the letter, at q, and what it has after it or before it
abbrev pub ending_rules : Language → ℕ → Opening → ℕ → ℕ → List ℕ → List Rule
ending_rules (Scan profile) p o q letter x = letter_rules profile o letter q ++ scanlist_rules letter q x
ending_rules (Print profile) p o q letter x = print_letter_rules profile o letter q ++ flag_rules p o (print_letter_of profile letter)

-- from where the letter of the specification is due, at q
abbrev pub rest_rules : Language → List Opening → ℕ → Opening → ℕ → List ℕ → List Rule
rest_rules language earlier p o q [] = record { why = Truncated; applies = true; at = q } ∷ []
rest_rules language earlier p o q (letter ∷ x) = ending_rules language p o q letter x ++ slot_rules earlier p o

-- what follows a % that no other follows
abbrev pub conversion_rules : Language → List Opening → ℕ → List ℕ → List Rule
conversion_rules language earlier p x =
    let o = (cut language x).opening in
    opening_rules language p o ++ rest_rules language earlier p o (p + length (opening_text o)) (cut language x).rest

-- what follows a %
abbrev pub percent_rules : Language → List Opening → ℕ → List ℕ → List Rule
percent_rules language earlier p x = if is_none (short_part language x) then conversion_rules language earlier p x else []

-- ---- the faults of a text

-- the next part itself, which begins at p with these bytes
abbrev pub part_rules : Language → List Opening → ℕ → List ℕ → List Rule
part_rules language earlier p [] = []
part_rules language earlier p (b ∷ x) =
    record { why = Nul; applies = nat_eq b 0; at = p }
    ∷ (if nat_eq b (code "%") then percent_rules language earlier p x else [])

-- where a part stands after others, outside a group or in one
abbrev pub group_rules : List Piece → Piece → List Rule
group_rules done piece =
    let stage = stage_after Outside done in
    let role = role_of piece in
    record {
      why = BadGroup;
      applies = not (may_stand stage role);
      at = place_told stage role (last_start 0 0 done) (length (text_of done));
    } ∷ []

-- the next part, which begins with these bytes, after others: it itself, and then where it stands
abbrev pub next_rules : Language → List Piece → List ℕ → List Rule
next_rules language done x =
    part_rules language (destinations done) (length (text_of done)) x ++ group_rules done (part_at language x).piece

-- the numbers of the destinations, each with the place of its %
abbrev pub numbered : ℕ → List Piece → List (ℕ × ℕ)
numbered p [] = []
numbered p (piece ∷ pieces) =
    map (λ o. (magnitude 10 o.number, p)) (destinations (piece ∷ [])) ++ numbered (p + length (piece_text piece)) pieces

-- a number that stands a second time, and one above the count
abbrev pub repeated : List ℕ → List (ℕ × ℕ) → List Rule
repeated earlier [] = []
repeated earlier (n ∷ ns) =
    record { why = NumberTwice; applies = is_any_of earlier n.0; at = n.1 } ∷ repeated (n.0 ∷ earlier) ns

abbrev pub beyond : ℕ → List (ℕ × ℕ) → List Rule
beyond count [] = []
beyond count (n ∷ ns) = record { why = NumberGap; applies = nat_lt count n.0; at = n.1 } ∷ beyond count ns

-- the destinations of the whole format
abbrev pub number_rules : List Piece → List Rule
number_rules pieces =
    if list_all (λ o. is_written o.number) (destinations pieces) then
    repeated [] (numbered 0 pieces) ++ beyond (length (destinations pieces)) (numbered 0 pieces)
    else []

-- a group that is open at the end
abbrev pub open_rules : List Piece → List Rule
open_rules pieces = record { why = BadGroup; applies = is_open (stage_after Outside pieces); at = last_start 0 0 pieces } ∷ []

-- the whole format
abbrev pub whole_rules : List Piece → List Rule
whole_rules pieces = open_rules pieces ++ number_rules pieces

-- whole parts, none of which has a fault so far
pub record AreFaultless (language : Language) (done : List Piece) : Type 0 where
  pub each : AllByRecursion (IsPiece language) done
  pub apart : RunsApart done
  pub alike : AreAlike (destinations done)
  pub grouped : AreGrouped Outside done

-- after whole parts without a fault, the first fault of what follows
abbrev pub PartFault : Language → List ℕ → FormatWhy × ℕ → Type 0
PartFault language text fault =
    (done : List Piece) × (rest : List ℕ) × AreFaultless language done × (text ≡ text_of done ++ rest)
    × (first_of (next_rules language done rest) ≡ Some fault)

-- the parts of the whole text have no such fault, and it has one itself
abbrev pub WholeFault : Language → List ℕ → FormatWhy × ℕ → Type 0
WholeFault language text fault =
    (done : List Piece) × AreFaultless language done × (text ≡ text_of done) × (first_of (whole_rules done) ≡ Some fault)

-- the first fault of the text, and its place
abbrev pub FaultIn : Language → List ℕ → ℕ → FormatWhy → Type 0
FaultIn language text at why =
    (4096 < length text) × (at ≡ 4096) × (why ≡ FormatTooLong)
    ⊎ (length text ≤ 4096) × (PartFault language text (why, at) ⊎ WholeFault language text (why, at))

-- of a scan format
abbrev pub Fault : Profile → List ℕ → ℕ → FormatWhy → Type 0
Fault profile text at why = FaultIn (Scan profile) text at why

-- of a print format
abbrev pub PrintFault : Profile → List ℕ → ℕ → FormatWhy → Type 0
PrintFault profile text at why = FaultIn (Print profile) text at why

-- ---- why a format is not had

abbrev pub no_memory : FormatFault
no_memory = record { at = 0; why = NoMemory }

-- the first fault of the text, or memory where the text has none
abbrev pub IsRefusedAs : {D : Type 0} → Language → (Option ℕ → ℕ → Piece → D → Type 0) → List ℕ → FormatFault → Type 0
IsRefusedAs {D} language means text fault =
    FaultIn language text fault.at fault.why ⊎ (fault ≡ no_memory) × ((ds : List D) × SpellsAs language means text ds)

abbrev pub IsRefused : Profile → List ℕ → FormatFault → Type 0
IsRefused profile text fault = IsRefusedAs (Scan profile) (Means profile) text fault

abbrev pub IsPrintRefused : Profile → List ℕ → FormatFault → Type 0
IsPrintRefused profile text fault = IsRefusedAs (Print profile) (PrintsApart profile) text fault

-- a text with a fault is refused for it
abbrev pub TellsFault : {A : Type 0} → (ℕ → FormatWhy → Type 0) → Result A FormatFault → Type 0
TellsFault is_fault result = (at : ℕ) (why : FormatWhy) → is_fault at why → result ≡ Err (record { at = at; why = why })

-- a text that spells something is refused only for memory
abbrev pub TakesSpelled : {D : Type 0} → (D → Type 0) → Result D FormatFault → Type 0
TakesSpelled {D} spells result = (ds : D) → spells ds → MatchResult result (λ format. format ≡ ds) (λ fault. fault ≡ no_memory)
