-- Scan formats of profile 3 and their faults, computed.
use Rattle.std.proofs.Common.{◌≡◌, ◌≢◌, ℕ, ◌≤◌, Bool, true, false, List, [], ◌∷◌, length, map, Option, Some, None, refl, inl, lit<, lit≤}
use Rattle.std.proofs.Common.{arith}
use Rattle.std.specs.Prelude.{codes, IsSome}
use Rattle.sf_format.specs.Digits.{IsOptionalNumber}
use Rattle.sf_base.specs.declared.values.Kind.{Kind}
use Rattle.sf_base.specs.declared.values.Kind.TheVariants as kind
use Rattle.sf_base.specs.declared.values.Kind.TheVariants.{I32, U32, F32, F64}
use Rattle.sf_format.specs.declared.directive.Profile.TheVariants.{One, Two, Three}
use Rattle.sf_format.specs.Language.{Scan, Print}
use Rattle.sf_format.specs.declared.directive.Base.TheVariants.{Dec, Hex}
use Rattle.sf_format.specs.declared.directive.Lead.{Lead}
use Rattle.sf_format.specs.declared.directive.Lead.TheVariants.{Any, Minus, Nothing}
use Rattle.sf_format.specs.declared.directive.Shape.{Shape}
use Rattle.sf_format.specs.declared.directive.Shape.TheVariants.{Int, Text, Float}
use Rattle.sf_format.specs.declared.directive.Conversion.{Conversion}
use Rattle.sf_format.specs.declared.directive.Directive.{Directive}
use Rattle.sf_format.specs.declared.directive.Directive.TheVariants.{Conv, Opens, Percent}
use Rattle.sf_format.specs.declared.directive.Literal.TheVariants as literal
use Rattle.sf_format.specs.declared.letter.Letter.{Letter}
use Rattle.sf_format.specs.declared.letter.Letter.TheVariants as letter
use Rattle.sf_format.specs.declared.letter.Length.{Length}
use Rattle.sf_format.specs.declared.letter.Length.TheVariants.{NoLength, L}
use Rattle.sf_format.specs.declared.fault.FormatWhy.TheVariants.{Truncated, ZeroWidth, TooWide, UnknownLetter, LeftOut, BadLength}
use Rattle.sf_format.specs.declared.fault.FormatWhy.TheVariants.{BackwardRange, BadCount, BadNumber, NumberTwice, BadMark, BadGroup}
use Rattle.sf_format.specs.declared.fault.FormatWhy.TheVariants.{MixedNumbering, NumberGap}
use Rattle.sf_format.specs.declared.groups.Stage.TheVariants.{Outside}
use Rattle.sf_format.specs.Groups.{role_by, may_stand, next_stage}
use Rattle.sf_format.specs.Letters.{letter_of, kind_of}
use Rattle.sf_format.specs.Pieces.{Opening, WhiteSpace, Ordinary, Percents, Plain, Bracket, GroupStart, GroupEnd, text_of}
use Rattle.sf_format.specs.Grammar.{ArePlaced, Suits, SuitsCount, SuitsColumn, SuitsMark, IsConversion, shape_of, destinations, Spells}
use Rattle.sf_format.specs.Proper.{has_optional, may_miss}
use Rattle.sf_format.specs.Widths.{width_sum}
use Rattle.sf_format.proofs.Rows.{parts, at, AreJudged, opened, sized, plain, suppressed, listed}

-- ---- faults

faults : AreJudged (Scan Three) (
    (codes "%Lf", at LeftOut 1)
    ∷ (codes "%hf", at BadLength 2)
    ∷ (codes "%hhf", at BadLength 3)
    ∷ (codes "%llf", at BadLength 3)
    ∷ (codes "%jf", at BadLength 2)
    ∷ (codes "%zA", at BadLength 2)
    ∷ (codes "%tE", at BadLength 2)
    ∷ (codes "a%*?5hha", at BadLength 7)
    ∷ (codes "%?n", at BadCount 2)
    ∷ (codes "%*?n", at BadCount 3)
    ∷ (codes "%p", at LeftOut 1)
    ∷ (codes "%C", at LeftOut 1)
    ∷ (codes "%S", at LeftOut 1)
    ∷ (codes "%ms", at LeftOut 1)
    ∷ (codes "%?L", at LeftOut 2)
    ∷ (codes "%?lc", at LeftOut 3)
    ∷ (codes "%?hs", at BadLength 3)
    ∷ (codes "%?[z-a]", at BackwardRange 3)
    ∷ (codes "%1$*?f", at BadNumber 3)
    ∷ (codes "%?*f", at UnknownLetter 2)
    ∷ (codes "%5?f", at UnknownLetter 2)
    ∷ (codes "%??f", at UnknownLetter 2)
    ∷ (codes "%?%", at UnknownLetter 2)
    ∷ (codes "%?1$d", at UnknownLetter 3)
    ∷ (codes "%?", at Truncated 2)
    ∷ (codes "%?5", at Truncated 3)
    ∷ (codes "%?0d", at ZeroWidth 2)
    ∷ (codes "%*?0d", at ZeroWidth 3)
    ∷ (codes "%?70000d", at TooWide 2)
    ∷ (codes "%1$lf%*?65535le%1$f", at NumberTwice 15)
    ∷ (codes "%!c", at BadMark 2)
    ∷ (codes "%*?!5c", at BadMark 5)
    ∷ (codes "%![z-a]", at BadMark 2)
    ∷ (codes "%![a", at BadMark 2)
    ∷ (codes "%!n", at BadMark 2)
    ∷ (codes "%?!n", at BadCount 3)
    ∷ (codes "%!5n", at BadCount 3)
    ∷ (codes "%!lc", at LeftOut 3)
    ∷ (codes "%!hs", at BadLength 3)
    ∷ (codes "%!?d", at UnknownLetter 2)
    ∷ (codes "%!*d", at UnknownLetter 2)
    ∷ (codes "%5!d", at UnknownLetter 2)
    ∷ (codes "%!!d", at UnknownLetter 2)
    ∷ (codes "%!%", at UnknownLetter 2)
    ∷ (codes "%!1$d", at UnknownLetter 3)
    ∷ (codes "%1$*!d", at BadNumber 3)
    ∷ (codes "%!", at Truncated 2)
    ∷ (codes "%!0d", at ZeroWidth 2)
    ∷ (codes "%*?!0d", at ZeroWidth 4)
    ∷ (codes "%!70000d", at TooWide 2)
    ∷ (codes "%d%1$!c", at BadMark 6)
    ∷ (codes "%=d", at BadMark 2)
    ∷ (codes "%=s", at BadMark 2)
    ∷ (codes "%=[z-a]", at BadMark 2)
    ∷ (codes "%=5c", at BadMark 3)
    ∷ (codes "%=c", at BadMark 2)
    ∷ (codes "%=n", at BadMark 2)
    ∷ (codes "%=5n", at BadCount 3)
    ∷ (codes "%=![ab]", at BadMark 3)
    ∷ (codes "%=!5[ab]", at BadMark 4)
    ∷ (codes "%!=5d", at UnknownLetter 2)
    ∷ (codes "%=?5d", at UnknownLetter 2)
    ∷ (codes "%=*5d", at UnknownLetter 2)
    ∷ (codes "%5=d", at UnknownLetter 2)
    ∷ (codes "%==5d", at UnknownLetter 2)
    ∷ (codes "%=", at Truncated 2)
    ∷ (codes "%*?=!0d", at ZeroWidth 5)
    ∷ (codes "%1$?=!70000d", at TooWide 6)
    ∷ (codes "%=5hs", at BadLength 4)
    ∷ (codes "%?(", at BadGroup 0)
    ∷ (codes "%)", at BadGroup 0)
    ∷ (codes "%)%k", at BadGroup 0)
    ∷ (codes "a%?(", at BadGroup 1)
    ∷ (codes "%?(%)", at BadGroup 0)
    ∷ (codes "%?(%)%k", at BadGroup 0)
    ∷ (codes "a%?( %d%)", at BadGroup 1)
    ∷ (codes " %?( %d%)", at BadGroup 1)
    ∷ (codes "%?(%n%)", at BadGroup 0)
    ∷ (codes "%?(%?d%)", at BadGroup 0)
    ∷ (codes "%?(%?[a]%)", at BadGroup 0)
    ∷ (codes "%?(%?n%)", at BadCount 5)
    ∷ (codes "%?(%k%)", at UnknownLetter 4)
    ∷ (codes "%?(a%?(b%)%)", at BadGroup 4)
    ∷ (codes "%?(%?(a%)%)", at BadGroup 3)
    ∷ (codes "%?(a%)%)", at BadGroup 6)
    ∷ (codes "%?(a%)%?(b", at BadGroup 6)
    ∷ (codes "%?(%d", at BadGroup 0)
    ∷ (codes "%?(%d%k", at UnknownLetter 6)
    ∷ (codes "%1$d%?(%3$d", at BadGroup 4)
    ∷ (codes "%1$d%?(%3$d%)", at NumberGap 7)
    ∷ (codes "%d%?(%1$d%)", at MixedNumbering 5)
    ∷ (codes "%*?(", at UnknownLetter 3)
    ∷ (codes "%?=(", at UnknownLetter 3)
    ∷ (codes "%1$?(", at UnknownLetter 4)
    ∷ (codes "%*)", at UnknownLetter 2)
    ∷ (codes "%?)", at UnknownLetter 2)
    ∷ (codes "%(", at UnknownLetter 1)
    ∷ [])
faults = refl

-- below profile 3 floats are left out, and ?, =, ! and ) are no letters
of_two : AreJudged (Scan Two) (
    (codes "%f", at LeftOut 1)
    ∷ (codes "%hf", at LeftOut 2)
    ∷ (codes "%lf%5lf", at LeftOut 2)
    ∷ (codes "%?d", at UnknownLetter 1)
    ∷ (codes "%*?d", at UnknownLetter 2)
    ∷ (codes "%?n", at UnknownLetter 1)
    ∷ (codes "%!d", at UnknownLetter 1)
    ∷ (codes "%*!c", at UnknownLetter 2)
    ∷ (codes "%=5d", at UnknownLetter 1)
    ∷ (codes "%*=5d", at UnknownLetter 2)
    ∷ (codes "%?(%d%)", at UnknownLetter 1)
    ∷ (codes "%)", at UnknownLetter 1)
    ∷ [])
of_two = refl

of_one : AreJudged (Scan One) (
    (codes "%f", at LeftOut 1)
    ∷ (codes "%?d", at UnknownLetter 1)
    ∷ (codes "%=5d", at UnknownLetter 1)
    ∷ (codes "%!d", at UnknownLetter 1)
    ∷ (codes "%?(%d%)", at UnknownLetter 1)
    ∷ (codes "%)", at UnknownLetter 1)
    ∷ [])
of_one = refl

-- print formats have no ?, no =, no ! and no groups
printed : AreJudged (Print Three) (
    (codes "%?d", at UnknownLetter 1)
    ∷ (codes "%=5d", at UnknownLetter 1)
    ∷ (codes "%!d", at UnknownLetter 1)
    ∷ (codes "%?(%d%)", at UnknownLetter 1)
    ∷ (codes "%)", at UnknownLetter 1)
    ∷ [])
printed = refl

-- ---- formats

-- such an opening, where the item may be missing
abbrev missing : Opening → Opening
missing o = record o { optional = true }

-- such an opening of a column
abbrev column : Opening → Opening
column o = record o { column = true }

-- such an opening with !
abbrev pub strict : Opening → Opening
strict o = record o { strict = true }

formats : AreJudged (Scan Three) (
    (codes "%f%lf", parts (Plain plain 102 ∷ Plain (sized [] L) 102 ∷ []))
    ∷ (codes "%?5lf", parts (Plain (missing (sized (codes "5") L)) 102 ∷ []))
    ∷ (codes "%*?d", parts (Plain (missing suppressed) 100 ∷ []))
    ∷ (codes "%1$?a", parts (Plain (missing (opened (codes "1") [] [] None NoLength)) 97 ∷ []))
    ∷ (codes "%?2[ab]?", parts (Bracket (missing (sized (codes "2") NoLength)) (listed false 97 (codes "b")) ∷ Ordinary 63 ∷ []))
    ∷ (codes "%!d!", parts (Plain (strict plain) 100 ∷ Ordinary 33 ∷ []))
    ∷ (codes "%*!x", parts (Plain (strict suppressed) 120 ∷ []))
    ∷ (codes "%?!5lf", parts (Plain (strict (missing (sized (codes "5") L))) 102 ∷ []))
    ∷ (codes "%!s", parts (Plain (strict plain) 115 ∷ []))
    ∷ (codes "%=8lf=", parts (Plain (column (sized (codes "8") L)) 102 ∷ Ordinary 61 ∷ []))
    ∷ (codes "%*?=!2x", parts (Plain (strict (column (missing (record suppressed { width = codes "2" })))) 120 ∷ []))
    ∷ (codes "%=3s", parts (Plain (column (sized (codes "3") NoLength)) 115 ∷ []))
    ∷ (codes "%=2[ab]", parts (Bracket (column (sized (codes "2") NoLength)) (listed false 97 (codes "b")) ∷ []))
    ∷ (codes "%1$!i", parts (Plain (strict (opened (codes "1") [] [] None NoLength)) 105 ∷ []))
    ∷ (codes "%d%?(,%d%)", parts (Plain plain 100 ∷ GroupStart ∷ Ordinary 44 ∷ Plain plain 100 ∷ GroupEnd ∷ []))
    ∷ (codes "%?(%d%)", parts (GroupStart ∷ Plain plain 100 ∷ GroupEnd ∷ []))
    ∷ (
      codes "%?([%d]%) %s",
      parts (GroupStart ∷ Ordinary 91 ∷ Plain plain 100 ∷ Ordinary 93 ∷ GroupEnd ∷ WhiteSpace (codes " ") ∷ Plain plain 115 ∷ []),
    )
    ∷ (codes "%?(%%%d%)", parts (GroupStart ∷ Percents ∷ Plain plain 100 ∷ GroupEnd ∷ []))
    ∷ (
      codes "%?(%d %) %?(a%?d%n%)",
      parts (GroupStart ∷ Plain plain 100 ∷ WhiteSpace (codes " ") ∷ GroupEnd ∷ WhiteSpace (codes " ") ∷ GroupStart ∷ Ordinary 97
          ∷ Plain (missing plain) 100 ∷ Plain plain 110 ∷ GroupEnd ∷ []),
    )
    ∷ [])
formats = refl

-- ---- by the definitions themselves

-- outside a group a conversion stands alone
stands : (v : Bool) → may_stand Outside (role_by v) ≡ true
stands true = refl
stands false = refl

stays : (v : Bool) → next_stage Outside (role_by v) ≡ Outside
stays true = refl
stays false = refl

-- one conversion, and what it stands for
spelled : (o : Opening) (b : ℕ) (letter : Letter) (c : Conversion) → b ≢ 91 → letter_of Three b ≡ Some letter → Suits Three letter o
    → length (text_of (Plain o b ∷ [])) ≤ 4096 → ArePlaced (destinations (Plain o b ∷ [])) → IsConversion None 1 o letter c
    → shape_of letter o.strict c.shape → Spells Three (text_of (Plain o b ∷ [])) (Conv c ∷ [])
spelled o b letter c plain found suits short placed is takes = (
  Plain o b ∷ [],
  record {
    short = short;
    each = ((plain, (letter, found, suits)), tt);
    apart = tt;
    slots = inl placed;
    grouped = (stands _, tt);
    closed = stays _;
  },
  refl,
  ((letter, c, found, is, takes, refl), tt),
)

abbrev conversion : Shape → Kind → Option ℕ → Option ℕ → Bool → Conversion
conversion shape kind width slot optional = record {
  shape = shape;
  kind = kind;
  width = width;
  slot = slot;
  optional = optional;
  opens = None;
  column = false;
}

no_bracket : (b : ℕ) → 92 ≤ b → b ≢ 91
no_bracket b above e = absurd (omega (arith, above, e))

-- without a number, and not suppressed
abbrev unnumbered : Bool → Bool → Bool → List ℕ → Length → Opening
unnumbered optional column strict width size = record (sized width size) { optional = optional; column = column; strict = strict }

-- without =
no_column : {width : List ℕ} → false ≡ true → width ≢ []
no_column e = absurd (cc)

-- with = and a width
has_room : {d : ℕ} {ds : List ℕ} → true ≡ true → d ∷ ds ≢ []
has_room e none = absurd (cc)

suits : (optional column strict : Bool) (letter : Letter) (width : List ℕ) (size : Length) → IsOptionalNumber 65535 width
    → IsSome (kind_of letter size) → SuitsCount letter (unnumbered optional column strict width size)
    → SuitsColumn letter (unnumbered optional column strict width size) → SuitsMark letter (unnumbered optional column strict width size)
    → Suits Three letter (unnumbered optional column strict width size)
suits optional column strict letter width size wide sized counts placed marks = record {
  number = tt;
  suppressed = λ e. absurd (cc);
  optional = λ e. refl;
  column = λ e. refl;
  strict = λ e. refl;
  flags = refl;
  width = wide;
  precision = refl;
  size = sized;
  count = counts;
  placed = placed;
  mark = marks;
}

abbrev integer : Lead → Shape
integer lead = Int (record { base = Dec; lead = lead })

float : Spells Three (codes "%f") (Conv (conversion (Float Any) F32 None (Some 1) false) ∷ [])
float =
    spelled (unnumbered false false false [] NoLength) 102 letter.Float _ (no_bracket 102 (lit≤ tt)) refl
    (suits false false false letter.Float [] NoLength tt refl tt no_column tt) (lit≤ tt) ((refl, tt), lit≤ tt)
    (record { kind = refl; width = refl; slot = refl; optional = refl; opens = refl; column = refl }) refl

long_float : Spells Three (codes "%lf") (Conv (conversion (Float Any) F64 None (Some 1) false) ∷ [])
long_float =
    spelled (unnumbered false false false [] L) 102 letter.Float _ (no_bracket 102 (lit≤ tt)) refl
    (suits false false false letter.Float [] L tt refl tt no_column tt) (lit≤ tt) ((refl, tt), lit≤ tt)
    (record { kind = refl; width = refl; slot = refl; optional = refl; opens = refl; column = refl }) refl

missing_integer : Spells Three (codes "%?d") (Conv (conversion (integer Any) I32 None (Some 1) true) ∷ [])
missing_integer =
    spelled (unnumbered true false false [] NoLength) 100 (letter.Signed Dec) _ (no_bracket 100 (lit≤ tt)) refl
    (suits true false false (letter.Signed Dec) [] NoLength tt refl tt no_column tt) (lit≤ tt) ((refl, tt), lit≤ tt)
    (record { kind = refl; width = refl; slot = refl; optional = refl; opens = refl; column = refl }) refl

missing_suppressed : Spells Three (codes "%*?d") (Conv (conversion (integer Any) I32 None None true) ∷ [])
missing_suppressed =
    spelled (missing suppressed) 100 (letter.Signed Dec) _ (no_bracket 100 (lit≤ tt)) refl
    (record {
      number = tt;
      suppressed = λ e. refl;
      optional = λ e. refl;
      column = λ e. refl;
      strict = λ e. refl;
      flags = refl;
      width = tt;
      precision = refl;
      size = refl;
      count = tt;
      placed = λ e. absurd (cc);
      mark = tt;
    }) (lit≤ tt) (tt, lit≤ tt) (record { kind = refl; width = refl; slot = refl; optional = refl; opens = refl; column = refl }) refl

missing_float : Spells Three (codes "%?5lf") (Conv (conversion (Float Any) F64 (Some 5) (Some 1) true) ∷ [])
missing_float =
    spelled (unnumbered true false false (codes "5") L) 102 letter.Float _ (no_bracket 102 (lit≤ tt)) refl
    (suits true false false letter.Float (codes "5") L ((refl, tt), lit< tt, lit≤ tt) refl tt no_column tt) (lit≤ tt) ((refl, tt), lit≤ tt)
    (record { kind = refl; width = refl; slot = refl; optional = refl; opens = refl; column = refl }) refl

-- ---- with !

strict_integer : Spells Three (codes "%!d") (Conv (conversion (integer Minus) I32 None (Some 1) false) ∷ [])
strict_integer =
    spelled (unnumbered false false true [] NoLength) 100 (letter.Signed Dec) _ (no_bracket 100 (lit≤ tt)) refl
    (suits false false true (letter.Signed Dec) [] NoLength tt refl tt no_column tt) (lit≤ tt) ((refl, tt), lit≤ tt)
    (record { kind = refl; width = refl; slot = refl; optional = refl; opens = refl; column = refl }) refl

strict_unsigned : Spells Three (codes "%!u") (Conv (conversion (integer Nothing) U32 None (Some 1) false) ∷ [])
strict_unsigned =
    spelled (unnumbered false false true [] NoLength) 117 (letter.Unsigned Dec) _ (no_bracket 117 (lit≤ tt)) refl
    (suits false false true (letter.Unsigned Dec) [] NoLength tt refl tt no_column tt) (lit≤ tt) ((refl, tt), lit≤ tt)
    (record { kind = refl; width = refl; slot = refl; optional = refl; opens = refl; column = refl }) refl

strict_suppressed :
    Spells Three (codes "%*!x") (Conv (conversion (Int (record { base = Hex; lead = Nothing })) U32 None None false) ∷ [])
strict_suppressed =
    spelled (strict suppressed) 120 (letter.Unsigned Hex) _ (no_bracket 120 (lit≤ tt)) refl
    (record {
      number = tt;
      suppressed = λ e. refl;
      optional = λ e. refl;
      column = λ e. refl;
      strict = λ e. refl;
      flags = refl;
      width = tt;
      precision = refl;
      size = refl;
      count = tt;
      placed = λ e. absurd (cc);
      mark = tt;
    }) (lit≤ tt) (tt, lit≤ tt) (record { kind = refl; width = refl; slot = refl; optional = refl; opens = refl; column = refl }) refl

strict_float : Spells Three (codes "%?!5lf") (Conv (conversion (Float Minus) F64 (Some 5) (Some 1) true) ∷ [])
strict_float =
    spelled (unnumbered true false true (codes "5") L) 102 letter.Float _ (no_bracket 102 (lit≤ tt)) refl
    (suits true false true letter.Float (codes "5") L ((refl, tt), lit< tt, lit≤ tt) refl tt no_column tt) (lit≤ tt) ((refl, tt), lit≤ tt)
    (record { kind = refl; width = refl; slot = refl; optional = refl; opens = refl; column = refl }) refl

strict_text : Spells Three (codes "%!s") (Conv (conversion (Text Nothing) kind.Text None (Some 1) false) ∷ [])
strict_text =
    spelled (unnumbered false false true [] NoLength) 115 letter.Text _ (no_bracket 115 (lit≤ tt)) refl
    (suits false false true letter.Text [] NoLength tt refl tt no_column tt) (lit≤ tt) ((refl, tt), lit≤ tt)
    (record { kind = refl; width = refl; slot = refl; optional = refl; opens = refl; column = refl }) refl

-- ---- with =

column_float : Spells Three (codes "%=8lf") (Conv (record (conversion (Float Any) F64 (Some 8) (Some 1) false) { column = true }) ∷ [])
column_float =
    spelled (unnumbered false true false (codes "8") L) 102 letter.Float _ (no_bracket 102 (lit≤ tt)) refl
    (suits false true false letter.Float (codes "8") L ((refl, tt), lit< tt, lit≤ tt) refl tt has_room tt) (lit≤ tt)
    ((refl, tt), lit≤ tt) (record { kind = refl; width = refl; slot = refl; optional = refl; opens = refl; column = refl }) refl

column_text : Spells Three (codes "%?=!3s") (Conv (record (conversion (Text Nothing) kind.Text (Some 3) (Some 1) true)
    { column = true }) ∷ [])
column_text =
    spelled (unnumbered true true true (codes "3") NoLength) 115 letter.Text _ (no_bracket 115 (lit≤ tt)) refl
    (suits true true true letter.Text (codes "3") NoLength ((refl, tt), lit< tt, lit≤ tt) refl tt has_room tt) (lit≤ tt)
    ((refl, tt), lit≤ tt) (record { kind = refl; width = refl; slot = refl; optional = refl; opens = refl; column = refl }) refl

-- ---- in groups

-- the first directive of a group, and how many follow it there
one_group : Spells Three (codes "%?(%d%)") (Conv (record (conversion (integer Any) I32 None (Some 1) true) { opens = Some 0 }) ∷ [])
one_group = (
  GroupStart ∷ Plain plain 100 ∷ GroupEnd ∷ [],
  record {
    short = lit≤ tt;
    each = (
      refl,
      (
        (
          no_bracket 100 (lit≤ tt),
          (letter.Signed Dec, refl, suits false false false (letter.Signed Dec) [] NoLength tt refl tt no_column tt),
        ),
        (refl, tt),
      ),
    );
    apart = tt;
    slots = inl ((refl, tt), lit≤ tt);
    grouped = (refl, (refl, (refl, tt)));
    closed = refl;
  },
  refl,
  (
    (
      letter.Signed Dec,
      _,
      refl,
      record { kind = refl; width = refl; slot = refl; optional = refl; opens = refl; column = refl },
      refl,
      refl,
    ),
    tt,
  ),
)

-- literals that open one and follow there
of_literals : Spells Three (codes "%?(,%%%)")
    (Opens (record { literal = literal.Byte 44; more = 1 }) ∷ Percent ∷ [])
of_literals = (
  GroupStart ∷ Ordinary 44 ∷ Percents ∷ GroupEnd ∷ [],
  record {
    short = lit≤ tt;
    each = (refl, ((lit< tt, (λ e. absurd (cc)), (λ e. absurd (cc)), refl), (tt, (refl, tt))));
    apart = tt;
    slots = inl (tt, lit≤ tt);
    grouped = (refl, (refl, (refl, (refl, tt))));
    closed = refl;
  },
  refl,
  (refl, (refl, tt)),
)

-- ---- what they store

-- a float with a width, one that is suppressed, and an integer that may be missing
abbrev some_floats : List Directive
some_floats =
    Conv (conversion (Float Any) F64 (Some 5) (Some 2) false) ∷ Conv (conversion (Float Any) F32 None None true)
    ∷ Conv (conversion (integer Any) I32 None (Some 1) true) ∷ []

sum : width_sum some_floats ≡ Some 5
sum = refl

no_sum : width_sum (Conv (conversion (Float Any) F64 None (Some 1) false) ∷ []) ≡ None
no_sum = refl

marked : has_optional some_floats ≡ true
marked = refl

which : map (λ slot. may_miss slot some_floats) (1 ∷ 2 ∷ 3 ∷ []) ≡ true ∷ false ∷ false ∷ []
which = refl

-- `%d%?(,%d%)`: the second integer may be missing with the comma
abbrev some_group : List Directive
some_group =
    Conv (conversion (integer Any) I32 None (Some 1) false) ∷ Opens (record { literal = literal.Byte 44; more = 1 })
    ∷ Conv (conversion (integer Any) I32 None (Some 2) false) ∷ []

in_group : map (λ slot. may_miss slot some_group) (1 ∷ 2 ∷ 3 ∷ []) ≡ false ∷ true ∷ false ∷ []
in_group = refl
