-- An opening and a letter that no rule refuses suit each other, in scan formats and in print formats.
use Rattle.std.proofs.Common.{◌≡◌, ℕ, ◌<◌, Bool, true, false, not, ◌&&◌, ◌||◌, nat_eq, nat_lt, List, [], ◌∷◌, Some, is_some, is_none, refl}
use Rattle.std.proofs.Common.{arith, ◌≢◌, zero, suc, ◌+◌, ◌^◌, length, Option, find, inl, inr}
use Rattle.std.specs.Prelude.{IsSome, IfSome}
use Rattle.std.proofs.lemmas.Bool.Decides.{nat_tests}
use Rattle.std.specs.List.{AllByRecursion}
use Rattle.sf_base.specs.Bytes.{magnitude}
use Rattle.sf_format.specs.Digits.{is_decimal, IsOptionalNumber}
use Rattle.sf_format.specs.Lists.{is_any_of, is_written}
use Rattle.sf_format.specs.Letters.{added_letters, letters, find_letter, letter_of, kind_of, text_kind, double_kind, float_kind}
use Rattle.sf_format.specs.Pieces.{Opening}
use Rattle.sf_format.specs.Grammar.{SuitsCount, SuitsColumn, SuitsMark, Suits}
use Rattle.sf_format.specs.Rules.{has_length, is_l}
use Rattle.sf_format.specs.Language.{Scan, Print}
use Rattle.sf_format.specs.Faults.{opening_rules, letter_rules}
use Rattle.sf_format.specs.Passing.{IsIn}
use Rattle.sf_format.specs.declared.directive.Profile.{Profile}
use Rattle.sf_format.specs.declared.letter.Letter.{Letter}
use Rattle.sf_format.specs.declared.letter.Letter.TheVariants.{Count}
use Rattle.sf_base.specs.declared.values.Kind.{Kind}
use Rattle.sf_base.specs.declared.values.Kind.TheVariants as kinds
use Rattle.sf_format.specs.declared.letter.Length.{Length}
use Rattle.sf_format.specs.declared.letter.Length.TheVariants.{NoLength, L}
use Rattle.sf_format.specs.Proper.{IsFloatKind}
use Rattle.sf_format.proofs.Outcomes.{not_above, not_zero}
use Rattle.sf_format.proofs.Prefixes.{AllPass}
use Rattle.sf_format.proofs.Cutting.{IsLast, HasParts}
use Rattle.sf_format.proofs.Rules.{Quiet}
use Rattle.sf_format.specs.Passing.{is_set}
use Rattle.std.specs.Char.{digit_value}
use Rattle.std.proofs.Math.Nat.{mul-pos}
use native.Mathlib.Nat.{pow-suc}
use Rattle.sf_format.specs.declared.directive.Profile.TheVariants as profiles
use Rattle.sf_format.specs.declared.unit.PrintLetter.{PrintLetter}
use Rattle.sf_format.specs.PrintLetters.{print_row, added_print_letters, print_letters, print_letter_of, print_kind_of}
use Rattle.sf_format.specs.Units.{has_flag}
use Rattle.sf_format.specs.PrintGrammar.{IsPrecision, StartsAboveZero, SuitsPrint}
use Rattle.sf_format.specs.PrintRules.{is_other_length, flags_place, precision_number, foreign_flag, print_letter_rules, flag_rules}

-- ---- letters

-- what is known of a letter's byte
pub record IsLetterOf (profile : Profile) (b : ℕ) (letter : Letter) : Type 0 where
  pub last : IsLast b
  pub allowed : (o : Opening) (q : ℕ) → Quiet (letter_rules profile o b q)
      → IsSome (kind_of letter o.size) × SuitsCount letter o × SuitsColumn letter o × SuitsMark letter o
  pub quiet : (o : Opening) (q : ℕ) → IsSome (kind_of letter o.size) → SuitsCount letter o → SuitsColumn letter o → SuitsMark letter o
      → Quiet (letter_rules profile o b q)

pub text_allowed : (size : Length) → has_length size ≡ false → IsSome (text_kind size)
text_allowed size e = grind arith

pub text_quiet : (size : Length) → IsSome (text_kind size) → (is_l size ≡ false) × (has_length size ≡ false)
text_quiet size e = grind arith

-- by the rule of scan formats, which asks of floats in the same place
text_fits : (size : Length) → (has_length size || false) ≡ false → IsSome (text_kind size)
text_fits size e = grind arith

float_allowed : (size : Length) → is_other_length size ≡ false → IsSome (float_kind size)
float_allowed size e = grind arith

float_quiet : (size : Length) → IsSome (float_kind size) → is_other_length size ≡ false
float_quiet size e = grind arith

double_allowed : (size : Length) → is_other_length size ≡ false → IsSome (double_kind size)
double_allowed size e = grind arith

double_quiet : (size : Length) → IsSome (double_kind size) → is_other_length size ≡ false
double_quiet size e = grind arith

-- a text has the kind of texts
pub text_kinded : (size : Length) (k : Kind) → text_kind size ≡ Some k → k ≡ kinds.Text
text_kinded size k h = grind arith

-- a float has a kind of floats
pub float_kinded : (size : Length) (k : Kind) → float_kind size ≡ Some k → IsFloatKind k
float_kinded NoLength k h = inl (grind (arith, h))
float_kinded L k h = inr (grind (arith, h))
float_kinded _ k h = absurd (cc)

-- a fact for each byte of each row
abbrev pub ForRows : {L : Type 0} → (ℕ → L → Type 0) → List (List ℕ × L) → Type 0
ForRows P rows = AllByRecursion (λ row. AllByRecursion (λ b. P b row.1) row.0) rows

and_false : (v : Bool) → (v && false) ≡ false
and_false v = grind arith

-- has a column a width, where there is a column
abbrev HasRoom : Bool → List ℕ → Type 0
HasRoom column width = column ≡ true → width ≢ []

-- the rule of the marks, of a letter that has columns, and of one that has none
abbrev with_columns : Bool → Bool → Bool → List ℕ → Bool
with_columns marked column strict width = (column && (not (is_written width) || false)) || (strict && marked)

abbrev without_columns : Bool → Bool → List ℕ → Bool
without_columns column strict width = (column && (not (is_written width) || true)) || (strict && true)

room_from : (marked column strict : Bool) (width : List ℕ) → with_columns marked column strict width ≡ false → HasRoom column width
room_from marked true strict [] e f none = absurd (cc)
room_from marked true strict (d ∷ ds) e f none = absurd (cc)
room_from marked false strict width e f none = absurd (cc)

room_quiet : (marked column strict : Bool) (width : List ℕ) → HasRoom column width → (strict && marked) ≡ false
    → with_columns marked column strict width ≡ false
room_quiet marked true strict [] h e = absurd (h refl refl)
room_quiet marked true strict (d ∷ ds) h e = e
room_quiet marked false strict width h e = e

mark_from : (column strict : Bool) (width : List ℕ) → with_columns true column strict width ≡ false → strict ≡ false
mark_from column strict width e = grind arith

none_from : (column strict : Bool) (width : List ℕ) → without_columns column strict width ≡ false → (column ≡ false) × (strict ≡ false)
none_from column strict width e = grind arith

-- the letters of integers, each by the rules of d
of_integer : (o : Opening) (q : ℕ) → Quiet (letter_rules profiles.One o 100 q)
    → (true ≡ true) × Unit {0} × HasRoom o.column o.width × Unit {0}
of_integer o q h = (refl, tt, room_from false o.column o.strict o.width h.1.1.1.1.1.1.0, tt)

quiet_integer : (o : Opening) (q : ℕ) → true ≡ true → Unit {0} → HasRoom o.column o.width → Unit {0}
    → Quiet (letter_rules profiles.One o 100 q)
quiet_integer o q s c r m =
    (refl, (refl, (refl, (refl, (refl, (refl, (room_quiet false o.column o.strict o.width r (and_false o.strict), tt)))))))

each_added : (profile : Profile) → ForRows (IsLetterOf profile) (added_letters profile)
each_added profiles.One = tt
each_added profiles.Two = assumption (of_integer, quiet_integer)
each_added profiles.Three = assumption (of_integer, quiet_integer, of_float, quiet_float)
  where
    of_float : (o : Opening) (q : ℕ) → Quiet (letter_rules profiles.Three o 102 q)
        → IsSome (float_kind o.size) × Unit {0} × HasRoom o.column o.width × Unit {0}
    of_float o q h = (float_allowed o.size h.1.1.1.1.0, tt, room_from false o.column o.strict o.width h.1.1.1.1.1.1.0, tt)

    quiet_float : (o : Opening) (q : ℕ) → IsSome (float_kind o.size) → Unit {0} → HasRoom o.column o.width → Unit {0}
        → Quiet (letter_rules profiles.Three o 102 q)
    quiet_float o q s c r m =
        let marks = room_quiet false o.column o.strict o.width r (and_false o.strict) in
        (refl, (refl, (refl, (refl, (float_quiet o.size s, (refl, (marks, tt)))))))

each_letter : (profile : Profile) → ForRows (IsLetterOf profile) (letters profile)
each_letter profile =
    assumption (
      of_integer,
      quiet_integer,
      of_text,
      quiet_text,
      of_set,
      quiet_set,
      of_chars,
      quiet_chars,
      of_count,
      quiet_count,
      each_added profile,
    )
  where
    of_text : (o : Opening) (q : ℕ) → Quiet (letter_rules profile o 115 q)
        → IsSome (text_kind o.size) × Unit {0} × HasRoom o.column o.width × Unit {0}
    of_text o q h = (text_fits o.size h.1.1.1.1.0, tt, room_from false o.column o.strict o.width h.1.1.1.1.1.1.0, tt)

    quiet_text : (o : Opening) (q : ℕ) → IsSome (text_kind o.size) → Unit {0} → HasRoom o.column o.width → Unit {0}
        → Quiet (letter_rules profile o 115 q)
    quiet_text o q s c r m =
        let t = text_quiet o.size s in
        let marks = room_quiet false o.column o.strict o.width r (and_false o.strict) in
        (refl, (refl, (refl, (t.0, (rw t.1 refl, (refl, (marks, tt)))))))

    of_set : (o : Opening) (q : ℕ) → Quiet (letter_rules profile o 91 q)
        → IsSome (text_kind o.size) × Unit {0} × HasRoom o.column o.width × (o.strict ≡ false)
    of_set o q h =
        let marks = h.1.1.1.1.1.1.0 in (
          text_fits o.size h.1.1.1.1.0,
          tt,
          room_from true o.column o.strict o.width marks,
          mark_from o.column o.strict o.width marks,
        )

    quiet_set : (o : Opening) (q : ℕ) → IsSome (text_kind o.size) → Unit {0} → HasRoom o.column o.width → o.strict ≡ false
        → Quiet (letter_rules profile o 91 q)
    quiet_set o q s c r m =
        let t = text_quiet o.size s in
        let marks = room_quiet true o.column o.strict o.width r (rw m refl) in
        (refl, (refl, (refl, (t.0, (rw t.1 refl, (refl, (marks, tt)))))))

    of_chars : (o : Opening) (q : ℕ) → Quiet (letter_rules profile o 99 q)
        → IsSome (text_kind o.size) × Unit {0} × (o.column ≡ false) × (o.strict ≡ false)
    of_chars o q h =
        let none = none_from o.column o.strict o.width h.1.1.1.1.1.1.0 in (text_fits o.size h.1.1.1.1.0, tt, none.0, none.1)

    quiet_chars : (o : Opening) (q : ℕ) → IsSome (text_kind o.size) → Unit {0} → o.column ≡ false → o.strict ≡ false
        → Quiet (letter_rules profile o 99 q)
    quiet_chars o q s c r m =
        let t = text_quiet o.size s in (refl, (refl, (refl, (t.0, (rw t.1 refl, (refl, (rw (r, m) refl, tt)))))))

    of_count : (o : Opening) (q : ℕ) → Quiet (letter_rules profile o 110 q)
        → IsSome (kind_of Count o.size) × SuitsCount Count o × SuitsColumn Count o × SuitsMark Count o
    of_count o q h =
        let none = none_from o.column o.strict o.width h.1.1.1.1.1.1.0 in
        (refl, count o.star o.width o.optional h.1.1.1.1.1.0, none.0, none.1)
      where
        count : (star : Bool) (width : List ℕ) (optional : Bool) → (star || is_written width || optional) ≡ false
            → (star ≡ false) × (width ≡ []) × (optional ≡ false)
        count star [] optional e = (grind arith, refl, grind arith)
        count star (d ∷ ds) optional e = absurd (grind arith)

    quiet_count : (o : Opening) (q : ℕ) → IsSome (kind_of Count o.size) → SuitsCount Count o → SuitsColumn Count o → SuitsMark Count o
        → Quiet (letter_rules profile o 110 q)
    quiet_count o q s c r m = rw (c.0, c.1, c.2, r, m) (refl, (refl, (refl, (refl, (refl, (refl, (refl, tt)))))))

pub any_of : (P : ℕ → Type 0) (bytes : List ℕ) (b : ℕ) → AllByRecursion P bytes → is_any_of bytes b ≡ true → P b
any_of P [] b all e = absurd (cc)
any_of P (a ∷ bytes) b all e = grind (arith, nat_tests, any_of P bytes b all.1)

pub found : {L : Type 0} (P : ℕ → L → Type 0) (rows : List (List ℕ × L)) → ForRows P rows → (b : ℕ) (letter : L)
    → find_letter rows b ≡ Some letter
    → P b letter
found P [] all b letter e = absurd (cc)
found P (row ∷ rows) all b letter e = grind (arith, any_of (λ a. P a row.1) row.0 b all.0, found P rows all.1 b letter)

pub letter_is : (profile : Profile) (b : ℕ) (letter : Letter) → letter_of profile b ≡ Some letter → IsLetterOf profile b letter
letter_is profile b letter e = found (IsLetterOf profile) (letters profile) (each_letter profile) b letter e

-- [ alone is the letter of a set
abbrev IsBracket : ℕ → Letter → Type 0
IsBracket b letter = is_set letter ≡ nat_eq b 91

pub bracket_is : (profile : Profile) (b : ℕ) (letter : Letter) → letter_of profile b ≡ Some letter → is_set letter ≡ nat_eq b 91
bracket_is profile b letter e = found IsBracket (letters profile) (assumption (added profile)) b letter e
  where
    added : (p : Profile) → ForRows IsBracket (added_letters p)
    added profiles.One = tt
    added profiles.Two = ((refl, tt), tt)
    added profiles.Three = assumption

-- ---- numbers

pub number_from : (limit : ℕ) (ds : List ℕ) → AllPass is_decimal ds → (is_written ds && nat_eq (magnitude 10 ds) 0) ≡ false
    → nat_lt limit (magnitude 10 ds) ≡ false → IsOptionalNumber limit ds
number_from limit ds digits low high = grind (arith, nat_tests)

-- the test of a slot's number
pub slot_from : (ds : List ℕ) → AllPass is_decimal ds → (is_written ds && (nat_eq (magnitude 10 ds) 0 || nat_lt 32 (magnitude 10 ds)))
    ≡ false
    → IsOptionalNumber 32 ds
slot_from ds digits e = grind (arith, nat_tests)

-- what the tests say of a number
pub record NumberTests (limit : ℕ) (ds : List ℕ) : Type 0 where
  pub digits : AllPass is_decimal ds
  pub low : (is_written ds && nat_eq (magnitude 10 ds) 0) ≡ false
  pub high : nat_lt limit (magnitude 10 ds) ≡ false
  pub slot : (is_written ds && (nat_eq (magnitude 10 ds) 0 || nat_lt limit (magnitude 10 ds))) ≡ false

pub number_tests : (limit : ℕ) (ds : List ℕ) → IsOptionalNumber limit ds → NumberTests limit ds
number_tests limit [] h = record { digits = tt; low = refl; high = not_above limit 0 (omega arith); slot = refl }
number_tests limit (d ∷ ds) h =
    let low = not_zero _ h.1 in
    let high = not_above limit _ h.2 in
    record { digits = h.0; low = low; high = high; slot = rw (low, high) }

-- ---- both

pub suits_from : (profile : Profile) (letter : Letter) (o : Opening) (b p q : ℕ) → letter_of profile b ≡ Some letter → HasParts o
    → IsIn (Scan profile) o → Quiet (opening_rules (Scan profile) p o) → Quiet (letter_rules profile o b q)
    → Suits profile letter o
suits_from profile letter o b p q e parts own opening rules =
    let h = (letter_is profile b letter e).allowed o q rules in
    record {
      number = slot_from o.number parts.number opening.0;
      suppressed = unnumbered o.number o.star opening.1.0;
      optional = own.2;
      column = own.3;
      strict = own.4;
      flags = own.0;
      width = number_from 65535 o.width parts.width opening.1.1.0 opening.1.1.1.0;
      precision = own.1;
      size = h.0;
      count = h.1;
      placed = h.2;
      mark = h.3;
    }
  where
    unnumbered : (ds : List ℕ) (star : Bool) → (is_written ds && star) ≡ false → star ≡ true → ds ≡ []
    unnumbered [] star e s = refl
    unnumbered (d ∷ ds) star e s = absurd (cc)

pub opening_quiet : (profile : Profile) (letter : Letter) (o : Opening) (p : ℕ) → Suits profile letter o
    → Quiet (opening_rules (Scan profile) p o)
opening_quiet profile letter o p suits =
    let width = number_tests 65535 o.width suits.width in
    ((number_tests 32 o.number suits.number).slot, (suppressed o.number o.star suits.suppressed, (width.low, (width.high, tt))))
  where
    suppressed : (ds : List ℕ) (star : Bool) → (star ≡ true → ds ≡ []) → (is_written ds && star) ≡ false
    suppressed ds false h = grind arith
    suppressed ds true h = rw h refl

pub letter_quiet : (profile : Profile) (letter : Letter) (o : Opening) (b q : ℕ) → letter_of profile b ≡ Some letter
    → Suits profile letter o → Quiet (letter_rules profile o b q)
letter_quiet profile letter o b q e suits = (letter_is profile b letter e).quiet o q suits.size suits.count suits.placed suits.mark

pub suits_parts : (profile : Profile) (letter : Letter) (o : Opening) → Suits profile letter o → HasParts o
suits_parts profile letter o suits = record {
  number = (number_tests 32 o.number suits.number).digits;
  flags = rw suits.flags tt;
  width = (number_tests 65535 o.width suits.width).digits;
  precision = rw suits.precision tt;
}

pub known : {A : Type 0} (o : Option A) → is_none o ≡ false → IsSome o
known o e = grind arith

-- ---- letters

-- what is known of a letter's byte
pub record IsPrintLetterOf (p : Profile) (b : ℕ) (letter : PrintLetter) : Type 0 where
  pub last : IsLast b
  pub plain : nat_eq b 91 ≡ false
  pub allowed : (o : Opening) (q : ℕ) → Quiet (print_letter_rules p o b q) → IsSome (print_kind_of letter o.size)
  pub quiet : (o : Opening) (q : ℕ) → IsSome (print_kind_of letter o.size) → Quiet (print_letter_rules p o b q)

-- a fact for each byte of each letter
abbrev pub ForLetters : (ℕ → PrintLetter → Type 0) → List PrintLetter → Type 0
ForLetters P letters = AllByRecursion (λ l. AllByRecursion (λ b. P b l) (print_row l).bytes) letters

each_print_added : (p : Profile) → ForLetters (IsPrintLetterOf p) (added_print_letters p)
each_print_added profiles.One = tt
each_print_added profiles.Two = assumption
each_print_added profiles.Three = assumption (of_double, quiet_double)
  where
    of_double : (o : Opening) (q : ℕ) → Quiet (print_letter_rules profiles.Three o 102 q) → IsSome (double_kind o.size)
    of_double o q h = double_allowed o.size h.1.1.1.1.1.0

    quiet_double : (o : Opening) (q : ℕ) → IsSome (double_kind o.size) → Quiet (print_letter_rules profiles.Three o 102 q)
    quiet_double o q s = (refl, (refl, (refl, (refl, (refl, (double_quiet o.size s, tt))))))

each_print_letter : (p : Profile) → ForLetters (IsPrintLetterOf p) (print_letters p)
each_print_letter p = assumption (of_text, quiet_text, each_print_added p)
  where
    of_text : (o : Opening) (q : ℕ) → Quiet (print_letter_rules p o 115 q) → IsSome (text_kind o.size)
    of_text o q h = text_allowed o.size h.1.1.1.1.0

    quiet_text : (o : Opening) (q : ℕ) → IsSome (text_kind o.size) → Quiet (print_letter_rules p o 115 q)
    quiet_text o q s = let t = text_quiet o.size s in (refl, (refl, (refl, (t.0, (t.1, (refl, tt))))))

pub printed : (P : ℕ → PrintLetter → Type 0) (letters : List PrintLetter) → ForLetters P letters → (b : ℕ) (letter : PrintLetter)
    → find (λ l. is_any_of (print_row l).bytes b) letters ≡ Some letter → P b letter
printed P [] all b letter e = absurd (cc)
printed P (l ∷ letters) all b letter e = grind (arith, any_of (λ a. P a l) (print_row l).bytes b all.0, printed P letters all.1 b letter)

pub print_letter_is : (p : Profile) (b : ℕ) (letter : PrintLetter) → print_letter_of p b ≡ Some letter → IsPrintLetterOf p b letter
print_letter_is p b letter e = printed (IsPrintLetterOf p) (print_letters p) (each_print_letter p) b letter e

-- ---- widths

ten_pos : (n : ℕ) → 0 < 10 ^ n
ten_pos zero = omega arith
ten_pos (suc n) = omega (arith, pow-suc 10 n, ten_pos n)

value_pos : (d : ℕ) → is_decimal d ≡ true → d ≢ 48 → 0 < digit_value d
value_pos d e other = grind (arith, nat_tests)

width_low : (ds : List ℕ) → AllPass is_decimal ds → StartsAboveZero ds → (is_written ds && nat_eq (magnitude 10 ds) 0) ≡ false
width_low [] digits first = refl
width_low (d ∷ ds) digits first =
    not_zero (magnitude 10 (d ∷ ds)) (omega (arith, mul-pos (value_pos d digits.0 first) (ten_pos (length ds))))

-- ---- the precision

precision_test : (precision : Option (List ℕ)) → IfSome precision IsPrecision
    → (nat_lt 255 (precision_number precision) ≡ false) × IfSome precision (AllPass is_decimal)
precision_test precision h = grind (arith, nat_tests)

-- ---- flags

none_foreign : (letter : PrintLetter) (n : ℕ) (flags : List ℕ) → is_some (foreign_flag letter n flags) ≡ false
    → AllByRecursion (λ b. has_flag letter b ≡ true) flags
none_foreign letter n [] e = tt
none_foreign letter n (b ∷ flags) e = grind (arith, none_foreign letter (n + 1) flags)

had_quiet : (letter : PrintLetter) (n : ℕ) (flags : List ℕ) → AllByRecursion (λ b. has_flag letter b ≡ true) flags
    → is_some (foreign_flag letter n flags) ≡ false
had_quiet letter n [] h = refl
had_quiet letter n (b ∷ flags) h = rw h.0 (had_quiet letter (n + 1) flags h.1)

-- ---- both

pub suits_print_from : (p : Profile) (letter : PrintLetter) (o : Opening) (b place q : ℕ) → print_letter_of p b ≡ Some letter → HasParts o
    → IsIn (Print p) o → Quiet (opening_rules (Print p) place o) → Quiet (print_letter_rules p o b q)
    → Quiet (flag_rules place o (Some letter)) → SuitsPrint letter o
suits_print_from p letter o b place q e parts own opening rules flags = record {
  number = slot_from o.number parts.number opening.0;
  star = own.0;
  optional = own.1;
  column = own.2;
  strict = own.3;
  flags = parts.flags;
  had = none_foreign letter (flags_place place o) o.flags flags.0;
  width = number_from 65535 o.width parts.width (width_low o.width parts.width own.4) opening.1.0;
  first = own.4;
  precision = grind (arith, nat_tests, parts.precision, opening.1.1.0);
  one = grind (arith, flags.1.0);
  size = (print_letter_is p b letter e).allowed o q rules;
}

pub print_opening_quiet : (p : Profile) (letter : PrintLetter) (o : Opening) (place : ℕ) → SuitsPrint letter o
    → Quiet (opening_rules (Print p) place o)
print_opening_quiet p letter o place suits = (
  (number_tests 32 o.number suits.number).slot,
  ((number_tests 65535 o.width suits.width).high, ((precision_test o.precision suits.precision).0, tt)),
)

pub print_letter_quiet : (p : Profile) (letter : PrintLetter) (o : Opening) (b q : ℕ) → print_letter_of p b ≡ Some letter
    → SuitsPrint letter o → Quiet (print_letter_rules p o b q)
print_letter_quiet p letter o b q e suits = (print_letter_is p b letter e).quiet o q suits.size

pub flags_quiet : (letter : PrintLetter) (o : Opening) (place : ℕ) → SuitsPrint letter o → Quiet (flag_rules place o (Some letter))
flags_quiet letter o place suits = (had_quiet letter (flags_place place o) o.flags suits.had, (grind (arith, suits.one), tt))

pub suits_print_parts : (letter : PrintLetter) (o : Opening) → SuitsPrint letter o → HasParts o
suits_print_parts letter o suits = record {
  number = (number_tests 32 o.number suits.number).digits;
  flags = suits.flags;
  width = (number_tests 65535 o.width suits.width).digits;
  precision = (precision_test o.precision suits.precision).1;
}
