-- Worked examples: what a format makes of an input, as C11, POSIX and we say.
use Rattle.std.specs.Prelude.{◌≡◌, ℕ, zero, suc, ◌+◌, Bool, true, false, ◌||◌, ◌&&◌, nat_le, List, [], ◌∷◌, ◌++◌, codes, Option, Some, None}
use Rattle.std.specs.Prelude.{pos, negsuc}
use Rattle.sf_base.specs.Data.{Datum, Number, Bytes, Real, Assigned}
use Rattle.sf_base.specs.declared.real.Real.TheVariants.{F32}
use Rattle.sf_base.specs.declared.values.Kind.{Kind}
use Rattle.sf_base.specs.declared.values.Kind.TheVariants as kind
use Rattle.sf_format.specs.declared.directive.Base.{Base}
use Rattle.sf_format.specs.declared.directive.Base.TheVariants.{Dec, Hex}
use Rattle.sf_format.specs.declared.directive.Lead.{Lead}
use Rattle.sf_format.specs.declared.directive.Lead.TheVariants.{Any, Minus, Nothing}
use Rattle.sf_format.specs.Leads.{as_in_c}
use Rattle.sf_format.specs.declared.directive.Shape.{Shape}
use Rattle.sf_format.specs.declared.directive.Shape.TheVariants.{Int, Text, Set, Chars, Float, Count}
use Rattle.sf_format.specs.declared.directive.Directive.{Directive}
use Rattle.sf_format.specs.declared.directive.Directive.TheVariants.{Space, Byte, Percent, Conv}
use Rattle.sf_report.specs.declared.outcome.Ending.{Ending}
use Rattle.sf_report.specs.declared.outcome.Ending.TheVariants.{End}
use Rattle.sf_report.specs.declared.outcome.Status.{Status}
use Rattle.sf_report.specs.declared.outcome.Status.TheVariants.{Done, InputFailure, MatchingFailure, TooLong, NoMemory}
use Rattle.sf_report.specs.Runs.{RunReport, c_return}
use Rattle.sf_report.specs.Limits.{RunWithin, RunRefused, RunTold}

-- the report of the directives under the limit, and no other is
pub record Reports (ds : List Directive) (m : ℕ) (x : List ℕ) (ending : Ending) (told : RunReport) : Type 0 where
  pub is : RunWithin ds m x ending told
  pub only : (other : RunReport) → RunWithin ds m x ending other → other ≡ told

-- ---- directives

abbrev pub conv : Shape → Kind → Option ℕ → Option ℕ → Directive
conv shape kind width slot =
    Conv (record { shape = shape; kind = kind; width = width; slot = slot; optional = false; opens = None; column = false })

-- an integer, assigned to the slot
abbrev pub int : Base → Kind → Option ℕ → ℕ → Directive
int base kind width slot = conv (Int (as_in_c base)) kind width (Some slot)

abbrev pub suppressed : Base → Kind → Directive
suppressed base kind = conv (Int (as_in_c base)) kind None None

-- with !
abbrev pub strict : Base → Lead → Kind → ℕ → Directive
strict base lead kind slot = conv (Int (record { base = base; lead = lead })) kind None (Some slot)

-- %?!d, for the first slot
abbrev pub maybe_strict : Directive
maybe_strict = Conv (record {
  shape = Int (record { base = Dec; lead = Minus });
  kind = kind.I32;
  width = None;
  slot = Some 1;
  optional = true;
  opens = None;
  column = false;
})

-- with = and a width
abbrev pub in_column : Shape → Kind → ℕ → Bool → ℕ → Directive
in_column shape kind width optional slot =
    Conv (record { shape = shape; kind = kind; width = Some width; slot = Some slot; optional = optional; opens = None; column = true })

abbrev pub int_column : ℕ → ℕ → Directive
int_column width slot = in_column (Int (as_in_c Dec)) kind.I32 width false slot

abbrev pub text_column : ℕ → ℕ → Directive
text_column width slot = in_column (Text Any) kind.Text width false slot

-- %?=5d, for the first slot
abbrev pub maybe_column : Directive
maybe_column = in_column (Int (as_in_c Dec)) kind.I32 5 true 1

-- %!=2hhu, for the first slot
abbrev pub strict_column : Directive
strict_column = in_column (Int (record { base = Dec; lead = Nothing })) kind.U8 2 false 1

abbrev pub float : ℕ → Directive
float slot = conv (Float Any) kind.F32 None (Some slot)

abbrev pub word : Option ℕ → ℕ → Directive
word width slot = conv (Text Any) kind.Text width (Some slot)

abbrev pub chars : Option ℕ → ℕ → Directive
chars width slot = conv Chars kind.Text width (Some slot)

abbrev pub count : Kind → ℕ → Directive
count kind slot = conv Count kind None (Some slot)

-- the test at n bytes from b on
abbrev pub marks : ℕ → ℕ → (ℕ → Bool) → List Bool
marks zero b test = []
marks (suc n) b test = test b ∷ marks n (b + 1) test

abbrev pub set : (ℕ → Bool) → Option ℕ → Directive
set test slot = conv (Set (marks 256 0 test)) kind.Text None slot

-- ---- reports

abbrev pub report : Status → (at assigned converted used : ℕ) → Option Ending → List Assigned → RunReport
report status at assigned converted used met values =
    record { status = status; at = at; assigned = assigned; converted = converted; used = used; met = met; values = values }

abbrev pub given : ℕ → Datum → Assigned
given slot datum = record { slot = slot; datum = datum }

abbrev pub number : ℕ → ℕ → Assigned
number slot n = given slot (Number kind.I32 (pos n))

-- the float with the pattern
abbrev pub pattern : ℕ → ℕ → Assigned
pattern slot bits = given slot (Real (F32 bits))

abbrev pub text : ℕ → List ℕ → Assigned
text slot bytes = given slot (Bytes bytes)

-- a limit that no example reaches
abbrev pub most : ℕ
most = 2147483647

-- ---- C11 7.21.6.2

-- %d%f%s
abbrev pub first_format : List Directive
first_format = int Dec kind.I32 None 1 ∷ float 2 ∷ word None 3 ∷ []

-- %2d%f%*d %[0123456789]
abbrev pub second_format : List Directive
second_format =
    int Dec kind.I32 (Some 2) 1 ∷ float 2 ∷ suppressed Dec kind.I32 ∷ Space ∷ set (λ b. nat_le 48 b && nat_le b 57) (Some 3) ∷ []

-- %f%20s of %20s
abbrev pub third_format : List Directive
third_format = float 1 ∷ word (Some 20) 2 ∷ Space ∷ Byte 111 ∷ Byte 102 ∷ Space ∷ word (Some 20) 3 ∷ []

-- %*[^\n]
abbrev pub rest_of_line : List Directive
rest_of_line = set (λ b. nat_le 11 b || nat_le b 9) None ∷ []

-- %d%n%n%d
abbrev pub fourth_format : List Directive
fourth_format = int Dec kind.I32 None 1 ∷ count kind.I32 2 ∷ count kind.I32 3 ∷ int Dec kind.I32 None 4 ∷ []

-- by %d%f%s: 25, 5.432 and a name
abbrev pub names : List ℕ → ℕ → RunReport
names name used = report Done 0 3 3 used None (number 1 25 ∷ pattern 2 1085133554 ∷ text 3 name ∷ [])

-- EXAMPLE 1
abbrev pub Example1 : Type 0
Example1 = Reports first_format most (codes "25 54.32E-1 thompson" ++ 10 ∷ []) End (names (codes "thompson") 20)

-- EXAMPLE 2: 56, 789.0 and 56; the next byte is an a
abbrev pub Example2 : Type 0
Example2 = Reports second_format most (codes "56789 0123 56a72") End
    (report Done 0 3 4 13 None (number 1 56 ∷ pattern 2 1145389056 ∷ text 3 (codes "56") ∷ []))

-- EXAMPLE 3: each line, after the newline of the one before; and what is left of a line
pub record Example3 : Type 0 where
  -- 2, quarts, oil
  pub quarts : Reports third_format most (codes "2 quarts of oil" ++ 10 ∷ []) End
      (report Done 0 3 3 15 None (pattern 1 1073741824 ∷ text 2 (codes "quarts") ∷ text 3 (codes "oil") ∷ []))
  pub nothing_left : Reports rest_of_line most (10 ∷ codes "-12.8degrees Celsius") End (report MatchingFailure 1 0 0 0 None [])
  -- -12.8, degrees: the C of Celsius is no o
  pub degrees : Reports third_format most (10 ∷ codes "-12.8degrees Celsius" ++ 10 ∷ []) End
      (report MatchingFailure 4 2 2 14 None (pattern 1 3243035853 ∷ text 2 (codes "degrees") ∷ []))
  pub celsius : Reports rest_of_line most (codes "Celsius" ++ 10 ∷ []) End (report Done 0 0 1 7 None [])
  -- the l of lots is no number
  pub lots : Reports third_format most (10 ∷ codes "lots of luck" ++ 10 ∷ []) End (report MatchingFailure 1 0 0 1 None [])
  -- 10.0, LBS, dirt
  pub dirt : Reports third_format most (10 ∷ codes "10.0LBS     of" ++ 10 ∷ codes "dirt" ++ 10 ∷ []) End
      (report Done 0 3 3 20 None (pattern 1 1092616192 ∷ text 2 (codes "LBS") ∷ text 3 (codes "dirt") ∷ []))
  -- 100e is no number
  pub ergs : Reports third_format most (10 ∷ codes "100ergs of energy" ++ 10 ∷ []) End (report MatchingFailure 1 0 0 5 None [])
  -- EOF
  pub end : Reports third_format most (10 ∷ []) End (report InputFailure 1 0 0 1 (Some End) [])
  pub eof : c_return (report InputFailure 1 0 0 1 (Some End) []) ≡ negsuc 0

-- EXAMPLE 4: 123, 3 and 3; the end of the input is an input failure, and 1 is returned
pub record Example4 : Type 0 where
  pub counts : Reports fourth_format most (codes "123") End
      (report InputFailure 4 1 1 3 (Some End) (number 1 123 ∷ number 2 3 ∷ number 3 3 ∷ []))
  pub returned : c_return (report InputFailure 4 1 1 3 (Some End) (number 1 123 ∷ number 2 3 ∷ number 3 3 ∷ [])) ≡ pos 1

pub record C11Examples : Type 0 where
  pub first : Example1
  pub second : Example2
  pub third : Example3
  pub fourth : Example4

-- ---- POSIX.1-2017, fscanf, EXAMPLES

-- its second example is that of C11
pub record PosixExamples : Type 0 where
  pub first : Reports first_format most (codes "25 54.32E-1 Hamster" ++ 10 ∷ []) End (names (codes "Hamster") 19)
  pub second : Example2

-- ---- ours

-- what counts: neither %% nor %n is a conversion
pub record CountExamples : Type 0 where
  pub percent : Reports (int Dec kind.I32 None 1 ∷ Percent ∷ []) most (codes "5 %") End (report Done 0 1 1 3 None (number 1 5 ∷ []))
  pub suppressed_then_count : Reports (suppressed Dec kind.I32 ∷ count kind.I32 1 ∷ []) most (codes "  12x") End
      (report Done 0 0 1 4 None (number 1 4 ∷ []))

-- a limit of 3 and of 4 bytes
pub record LimitExamples : Type 0 where
  pub cut_word : Reports (word None 1 ∷ []) 3 (codes "abcd") End (report TooLong 1 0 0 3 None [])
  pub at_limit : Reports (word None 1 ∷ []) 3 (codes "abc") End (report Done 0 1 1 3 (Some End) (text 1 (codes "abc") ∷ []))
  pub cut_later : Reports (int Dec kind.I32 None 1 ∷ Space ∷ word None 2 ∷ []) 4 (codes "12 ab") End
      (report TooLong 3 1 1 4 None (number 1 12 ∷ []))

-- a text may be refused memory within it; an integer and a byte never are
pub record MemoryExamples : Type 0 where
  pub text : RunTold (word None 1 ∷ []) most (codes "ab") End (report NoMemory 1 0 0 1 None [])
  pub integer : (m : ℕ) (x : List ℕ) (r : RunReport) → RunRefused (int Dec kind.I32 None 1 ∷ []) m x r → ⊥
  pub byte : (m : ℕ) (x : List ℕ) (r : RunReport) → RunRefused (Byte 97 ∷ []) m x r → ⊥

-- %!d, %!x and %?!d: no white space, no plus and no prefix
pub record StrictExamples : Type 0 where
  pub blank : Reports (strict Dec Minus kind.I32 1 ∷ []) most (codes " 5") End (report MatchingFailure 1 0 0 0 None [])
  pub plus : Reports (strict Dec Minus kind.I32 1 ∷ []) most (codes "+5") End (report MatchingFailure 1 0 0 0 None [])
  pub zeros : Reports (strict Dec Minus kind.I32 1 ∷ []) most (codes "-042") End
      (report Done 0 1 1 4 (Some End) (given 1 (Number kind.I32 (negsuc 41)) ∷ []))
  pub prefix : Reports (strict Hex Nothing kind.U32 1 ∷ []) most (codes "0x1f") End
      (report Done 0 1 1 1 None (given 1 (Number kind.U32 (pos 0)) ∷ []))
  pub missing : Reports (maybe_strict ∷ word None 2 ∷ []) most (codes "x") End
      (report Done 0 1 1 1 (Some End) (text 2 (codes "x") ∷ []))

-- %=5d, %?=5d, %=!2hhu, %=4s, %=4f and %=3d%=3d: each byte of a column is used, and its text is read
pub record ColumnExamples : Type 0 where
  pub around : Reports (int_column 5 1 ∷ []) most (codes "  42 ") End (report Done 0 1 1 5 None (number 1 42 ∷ []))
  pub inside : Reports (int_column 5 1 ∷ []) most (codes " 4 2 ") End (report MatchingFailure 1 0 0 5 None [])
  pub short : Reports (int_column 5 1 ∷ []) most (codes "12") End (report Done 0 1 1 2 (Some End) (number 1 12 ∷ []))
  pub nothing : Reports (int_column 5 1 ∷ []) most [] End (report InputFailure 1 0 0 0 (Some End) [])
  pub blank : Reports (int_column 5 1 ∷ []) most (codes "     ") End (report MatchingFailure 1 0 0 5 None [])
  pub missing : Reports (maybe_column ∷ []) most (codes "     ") End (report Done 0 0 0 5 None [])
  pub strict_blank : Reports (strict_column ∷ []) most (codes "1 ") End (report MatchingFailure 1 0 0 2 None [])
  pub strict_number : Reports (strict_column ∷ []) most (codes "42") End
      (report Done 0 1 1 2 None (given 1 (Number kind.U8 (pos 42)) ∷ []))
  pub words : Reports (text_column 4 1 ∷ []) most (codes " a b") End (report Done 0 1 1 4 None (text 1 (codes "a b") ∷ []))
  pub float : Reports (in_column (Float Any) kind.F32 4 false 1 ∷ []) most (codes "1.5 ") End
      (report Done 0 1 1 4 None (pattern 1 1069547520 ∷ []))
  pub next : Reports (int_column 3 1 ∷ int_column 3 2 ∷ []) most (codes "1  2") End
      (report Done 0 2 2 4 (Some End) (number 1 1 ∷ number 2 2 ∷ []))
  -- a text may be refused memory, but not before its first byte; an integer never is
  pub refused : RunTold (text_column 4 1 ∷ []) most (codes " ab") End (report NoMemory 1 0 0 1 None [])
  pub not_before : RunRefused (text_column 4 1 ∷ []) most (codes " ab") (report NoMemory 1 0 0 0 None []) → ⊥
  pub integer : (m : ℕ) (x : List ℕ) (r : RunReport) → RunRefused (int_column 5 1 ∷ []) m x r → ⊥

pub record OurExamples : Type 0 where
  pub counts : CountExamples
  pub limits : LimitExamples
  pub memory : MemoryExamples
  pub strict : StrictExamples
  pub columns : ColumnExamples
