-- Formats and faults, computed.
use Rattle.std.proofs.Common.{◌≡◌, ◌≢◌, ℕ, zero, suc, ◌+◌, Bool, true, false, List, [], ◌∷◌, ◌++◌, map, Option, Some, None, Result, Ok, Err}
use Rattle.std.proofs.Common.{refl, inl, inr, lit<, lit≤, arith}
use Rattle.std.specs.Prelude.{codes, replicate, if◌then◌else◌}
use Rattle.sf_base.specs.declared.values.Kind.TheVariants.{I32}
use Rattle.sf_format.specs.declared.directive.Profile.TheVariants.{One, Two}
use Rattle.sf_format.specs.Language.{Language, Scan, Print}
use Rattle.sf_format.specs.declared.directive.Base.TheVariants.{Dec}
use Rattle.sf_format.specs.declared.directive.Lead.TheVariants.{Any}
use Rattle.sf_format.specs.declared.directive.Shape.TheVariants.{Int}
use Rattle.sf_format.specs.declared.directive.Conversion.{Conversion}
use Rattle.sf_format.specs.declared.directive.Directive.TheVariants.{Conv}
use Rattle.sf_format.specs.declared.letter.Letter.TheVariants.{Signed}
use Rattle.sf_format.specs.declared.letter.Length.{Length}
use Rattle.sf_format.specs.declared.letter.Length.TheVariants.{NoLength, HH, H, L, LL}
use Rattle.sf_format.specs.declared.fault.FormatWhy.{FormatWhy}
use Rattle.sf_format.specs.declared.fault.FormatWhy.TheVariants.{Truncated, ZeroWidth, TooWide, UnknownLetter, LeftOut, BadLength, OpenSet}
use Rattle.sf_format.specs.declared.fault.FormatWhy.TheVariants.{BackwardRange, BadCount, MixedNumbering, BadNumber, NumberTwice, NumberGap}
use Rattle.sf_format.specs.declared.fault.FormatWhy.TheVariants.{Nul, TooManyDestinations, BadFlag, PrecisionTooLarge}
use Rattle.sf_format.specs.Scanlist.{Scanlist, is_member}
use Rattle.sf_format.specs.Pieces.{Opening, Piece, WhiteSpace, Ordinary, Percents, Plain, Bracket, text_of}
use Rattle.sf_format.specs.Grammar.{Spells}
use Rattle.sf_format.specs.Faults.{Fault}
use Rattle.sf_format.specs.Reading.{judged}

abbrev pub parts : List Piece → Result (List Piece) (FormatWhy × ℕ)
parts pieces = Ok pieces

abbrev pub at : FormatWhy → ℕ → Result (List Piece) (FormatWhy × ℕ)
at why place = Err (why, place)

-- each of the texts is judged so
abbrev pub AreJudged : Language → List (List ℕ × Result (List Piece) (FormatWhy × ℕ)) → Type 0
AreJudged language rows = map (λ row. judged language row.0) rows ≡ map (λ row. row.1) rows

-- ---- scan formats

abbrev pub opened : List ℕ → List ℕ → List ℕ → Option (List ℕ) → Length → Opening
opened number flags width precision size =
    record {
      number = number;
      star = false;
      optional = false;
      column = false;
      strict = false;
      flags = flags;
      width = width;
      precision = precision;
      size = size;
    }

-- a specification that opens with a width and a length alone
abbrev pub sized : List ℕ → Length → Opening
sized width size = opened [] [] width None size

abbrev pub plain : Opening
plain = sized [] NoLength

abbrev numbered : List ℕ → Opening
numbered number = opened number [] [] None NoLength

abbrev pub suppressed : Opening
suppressed = record plain { star = true }

abbrev pub listed : Bool → ℕ → List ℕ → Scanlist
listed complemented first others = record { complemented = complemented; first = first; others = others }

abbrev integers : ℕ → List ℕ
integers n = text_of (replicate n (Plain plain 100))

faults : AreJudged (Scan One) (
    (codes "%[z-a]", at BackwardRange 2)
    ∷ (codes "%0d", at ZeroWidth 1)
    ∷ (codes "%*n", at BadCount 2)
    ∷ (codes "%3n", at BadCount 2)
    ∷ (codes "%1$d%d", at MixedNumbering 4)
    ∷ (codes "%d%1$d", at MixedNumbering 2)
    ∷ (codes "%1$s%3$d", at NumberGap 4)
    ∷ (codes "%1$s%1$d", at NumberTwice 4)
    ∷ (codes "%33$d", at BadNumber 1)
    ∷ (codes "%5", at Truncated 2)
    ∷ (codes "%lc", at LeftOut 2)
    ∷ (codes "%[abc", at OpenSet 1)
    ∷ (codes "%hhs", at BadLength 3)
    ∷ (codes "%70000d", at TooWide 1)
    ∷ (codes "%000d", at ZeroWidth 1)
    ∷ (codes "%hhls", at UnknownLetter 3)
    ∷ (codes "%5%", at UnknownLetter 2)
    ∷ (codes "%*3$d", at UnknownLetter 3)
    ∷ (codes "%1$*d", at BadNumber 3)
    ∷ (codes "%0$d", at BadNumber 1)
    ∷ (codes "%Lf", at LeftOut 1)
    ∷ (codes "%m[a]", at LeftOut 1)
    ∷ (codes "%[^]", at OpenSet 1)
    ∷ (codes "%[]", at OpenSet 1)
    ∷ (codes "%%%", at Truncated 3)
    ∷ (codes "%2$d", at NumberGap 0)
    ∷ (codes "%3$d%3$d", at NumberTwice 4)
    ∷ (codes "%70000", at TooWide 1)
    ∷ (codes "%b", at UnknownLetter 1)
    ∷ (codes "%", at Truncated 1)
    ∷ (codes "a%", at Truncated 2)
    ∷ (codes "%l[a]", at LeftOut 2)
    ∷ (codes "%99999999999999999999$d", at BadNumber 1)
    ∷ (codes "%65536d", at TooWide 1)
    ∷ (codes "%2$d%k", at UnknownLetter 5)
    ∷ (codes " a\t %2$*0012hd", at BadNumber 7)
    ∷ (0 ∷ codes "%d", at Nul 0)
    ∷ (37 ∷ 0 ∷ [], at Nul 1)
    ∷ (codes "%[a" ++ 0 ∷ codes "b]", at Nul 3)
    ∷ (codes "%[a" ++ 0 ∷ [], at Nul 3)
    ∷ (codes "%hhb", at UnknownLetter 3)
    ∷ (codes "%!d", at UnknownLetter 1)
    ∷ (integers 33, at TooManyDestinations 64)
    ∷ [])
faults = refl

formats : AreJudged (Scan One) (
    ([], parts [])
    ∷ (codes "%d,%d", parts (Plain plain 100 ∷ Ordinary 44 ∷ Plain plain 100 ∷ []))
    ∷ (codes "a \t%d\n", parts (Ordinary 97 ∷ WhiteSpace (32 ∷ 9 ∷ []) ∷ Plain plain 100 ∷ WhiteSpace (10 ∷ []) ∷ []))
    ∷ (codes "%010d", parts (Plain (sized (codes "010") NoLength) 100 ∷ []))
    ∷ (codes "%3d,%*s", parts (Plain (sized (codes "3") NoLength) 100 ∷ Ordinary 44 ∷ Plain suppressed 115 ∷ []))
    ∷ (codes "%2$d %1$s", parts (Plain (numbered (codes "2")) 100 ∷ WhiteSpace (32 ∷ []) ∷ Plain (numbered (codes "1")) 115 ∷ []))
    ∷ (
      codes "%hhd%lu%llx%hn",
      parts (Plain (sized [] HH) 100 ∷ Plain (sized [] L) 117 ∷ Plain (sized [] LL) 120 ∷ Plain
          (sized [] H) 110 ∷ []),
    )
    ∷ (codes "%%%d", parts (Percents ∷ Plain plain 100 ∷ []))
    ∷ (codes "%[]a-c]", parts (Bracket plain (listed false 93 (codes "a-c")) ∷ []))
    ∷ (codes "%[^]]x", parts (Bracket plain (listed true 93 []) ∷ Ordinary 120 ∷ []))
    ∷ (integers 32, parts (replicate 32 (Plain plain 100)))
    ∷ [])
formats = refl

of_two : AreJudged (Scan Two) (
    (codes "%hhb", parts (Plain (sized [] HH) 98 ∷ []))
    ∷ [])
of_two = refl

two_as_one : judged (Scan Two) (codes "%2$d %1$s%[b]") ≡ judged (Scan One) (codes "%2$d %1$s%[b]")
two_as_one = refl

-- ---- print formats

print_faults : AreJudged (Print One) (
    (codes "%+u", at BadFlag 1)
    ∷ (codes "%05s", at BadFlag 1)
    ∷ (codes "%.3c", at BadFlag 1)
    ∷ (codes "%.300d", at PrecisionTooLarge 2)
    ∷ (codes "%'d", at LeftOut 1)
    ∷ (codes "%*d", at LeftOut 1)
    ∷ (codes "%n", at LeftOut 1)
    ∷ (codes "%0$d", at BadNumber 1)
    ∷ (codes "%-+#0x", at BadFlag 2)
    ∷ (codes "%0.3c", at BadFlag 1)
    ∷ (codes "%-7.c", at BadFlag 3)
    ∷ (codes "%70000", at TooWide 1)
    ∷ (codes "%.256", at PrecisionTooLarge 2)
    ∷ (codes "%-05.3ll", at Truncated 8)
    ∷ (codes "%ms", at UnknownLetter 1)
    ∷ (codes "%[a]", at UnknownLetter 1)
    ∷ (codes "%5%", at UnknownLetter 2)
    ∷ (codes "%-1$d", at UnknownLetter 3)
    ∷ (codes "%ls", at LeftOut 2)
    ∷ (codes "%hhs", at BadLength 3)
    ∷ (codes "%1$d%d", at MixedNumbering 4)
    ∷ (codes "%1$d%1$d", at NumberTwice 4)
    ∷ (codes "%1$d%3$s", at NumberGap 4)
    ∷ (37 ∷ 46 ∷ 0 ∷ [], at Nul 2)
    ∷ (codes "%#b", at UnknownLetter 2)
    ∷ [])
print_faults = refl

print_formats : AreJudged (Print One) (
    ([], parts [])
    ∷ (codes "a \t%%", parts (Ordinary 97 ∷ Ordinary 32 ∷ Ordinary 9 ∷ Percents ∷ []))
    ∷ (codes "%-05d|", parts (Plain (opened [] (codes "-0") (codes "5") None NoLength) 100 ∷ Ordinary 124 ∷ []))
    ∷ (codes "%100d", parts (Plain (opened [] [] (codes "100") None NoLength) 100 ∷ []))
    ∷ (codes "%#.o", parts (Plain (opened [] (codes "#") [] (Some []) NoLength) 111 ∷ []))
    ∷ (codes "%1$ +08.003hhi", parts (Plain (opened (codes "1") (codes " +0") (codes "8") (Some (codes "003")) HH) 105 ∷ []))
    ∷ (
      codes "%2$s-%1$d",
      parts (Plain (opened (codes "2") [] [] None NoLength) 115 ∷ Ordinary 45 ∷ Plain
          (opened (codes "1") [] [] None NoLength) 100 ∷ []),
    )
    ∷ [])
print_formats = refl

print_of_two : AreJudged (Print Two) (
    (codes "%#b", parts (Plain (opened [] (codes "#") [] None NoLength) 98 ∷ []))
    ∷ (codes "%+b", at BadFlag 1)
    ∷ [])
print_of_two = refl

two_prints_as_one : judged (Print Two) (codes "b%d") ≡ judged (Print One) (codes "b%d")
two_prints_as_one = refl

-- what one language takes the other may refuse
set_is_for_scans : judged (Scan One) (codes "%[a]") ≢ judged (Print One) (codes "%[a]")
set_is_for_scans e = absurd (cc)

-- ---- sets

abbrev count_below : ℕ → (ℕ → Bool) → ℕ
count_below zero test = 0
count_below (suc n) test = count_below n test + (if test n then 1 else 0)

abbrev members : Scanlist → ℕ
members list = count_below 256 (is_member list)

sizes : map members (listed false 97 (codes "-c-e") ∷ listed false 93 (codes "-a") ∷ listed true 93 [] ∷ listed false 97 (codes "-") ∷ [])
    ≡ 5 ∷ 5 ∷ 255 ∷ 2 ∷ []
sizes = refl

-- ---- by the definitions themselves

abbrev integer : Conversion
integer = record {
  shape = Int (record { base = Dec; lead = Any });
  kind = I32;
  width = None;
  slot = Some 1;
  optional = false;
  opens = None;
  column = false;
}

spelled : Spells One (codes "%d") (Conv integer ∷ [])
spelled = (
  Plain plain 100 ∷ [],
  record {
    short = lit≤ tt;
    each = (
      (
        differs,
        (
          Signed Dec,
          refl,
          record {
            number = tt;
            suppressed = λ e. absurd (cc);
            optional = λ e. absurd (cc);
            column = λ e. absurd (cc);
            strict = λ e. absurd (cc);
            flags = refl;
            width = tt;
            precision = refl;
            size = refl;
            count = tt;
            placed = λ e. absurd (cc);
            mark = tt;
          },
        ),
      ),
      tt,
    );
    apart = tt;
    slots = inl ((refl, tt), lit≤ tt);
    grouped = (refl, tt);
    closed = refl;
  },
  refl,
  (
    (
      Signed Dec,
      integer,
      refl,
      record { kind = refl; width = refl; slot = refl; optional = refl; opens = refl; column = refl },
      refl,
      refl,
    ),
    tt,
  ),
)
  where
    differs : ◌≢◌ {A = ℕ} 100 91
    differs e = absurd (omega (arith, e))

unknown : Fault One (codes " %k") 2 UnknownLetter
unknown =
    inr (
      lit≤ tt,
      inl (
        WhiteSpace (32 ∷ []) ∷ [],
        codes "%k",
        record { each = ((lit< tt, (refl, tt)), tt); apart = tt; alike = inl (tt, lit≤ tt); grouped = (refl, tt) },
        refl,
        refl,
      ),
    )
