-- Worked examples of fscanf by the paragraphs of C11 7.21.6.2: what a format makes of a whole input, and what is returned.
use Rattle.std.specs.Prelude.{◌≡◌, ℕ, ℤ, pos, negsuc, neg_ℤ, List, [], ◌∷◌, ◌++◌, codes, Option, Some, None}
use Rattle.std.specs.List.{AllByRecursion}
use Rattle.sf_base.specs.Data.{Number, Real, Assigned}
use Rattle.sf_base.specs.declared.real.Real.TheVariants.{F64}
use Rattle.sf_base.specs.declared.values.Kind.TheVariants as kind
use Rattle.sf_format.specs.declared.directive.Directive.{Directive}
use Rattle.sf_format.specs.declared.directive.Profile.{Profile}
use Rattle.sf_format.specs.declared.directive.Profile.TheVariants.{One, Three}
use Rattle.sf_format.specs.Grammar.{Spells}
use Rattle.sf_report.specs.declared.outcome.Ending.{Ending}
use Rattle.sf_report.specs.declared.outcome.Ending.TheVariants.{End}
use Rattle.sf_report.specs.declared.outcome.Status.TheVariants.{Done, InputFailure, MatchingFailure, OutOfRange}
use Rattle.sf_report.specs.Examples.{Reports, given, most, number, pattern, report, text}
use Rattle.sf_report.specs.Runs.{RunReport, c_return}

-- a format of the profile, an input, what fscanf returns, and the report
pub record Example : Type 0 where
  pub profile : Profile
  pub format : List ℕ
  pub input : List ℕ
  pub returned : ℤ
  pub told : RunReport

abbrev pub by : Profile → List ℕ → List ℕ → ℤ → RunReport → Example
by profile format input returned told =
    record { profile = profile; format = format; input = input; returned = returned; told = told }

-- the text spells directives whose one report of the input, which ends then, this is; and that is returned of it
pub record IsTold (e : Example) : Type 0 where
  pub directives : List Directive
  pub spelled : Spells e.profile e.format directives
  pub reported : Reports directives most e.input End e.told
  pub returned : c_return e.told ≡ e.returned

abbrev pub AreTold : List Example → Type 0
AreTold examples = AllByRecursion IsTold examples

-- Done, with so many items assigned, conversions completed and bytes used
abbrev pub done : (assigned converted used : ℕ) → Option Ending → List Assigned → RunReport
done assigned converted used met values = report Done 0 assigned converted used met values

-- p5: white space in a format
abbrev pub white_space : List Example
white_space =
    by One (codes "%d %d") (codes "1 " ++ 9 ∷ 10 ∷ codes "2") (pos 2) (done 2 2 5 (Some End) (number 1 1 ∷ number 2 2 ∷ []))
    ∷ by One (codes "%d %d") (codes "1x") (pos 1) (report MatchingFailure 3 1 1 1 None (number 1 1 ∷ []))
    ∷ by One (codes "%d" ++ 9 ∷ codes "%d") (codes "1 2") (pos 2) (done 2 2 3 (Some End) (number 1 1 ∷ number 2 2 ∷ []))
    ∷ by One (codes "a b") (codes "ab") (pos 0) (done 0 0 2 None [])
    ∷ by One (codes "a b") (codes "a " ++ 9 ∷ codes " b") (pos 0) (done 0 0 5 None [])
    ∷ by One (codes " ") [] (pos 0) (done 0 0 0 (Some End) [])
    ∷ by One (codes " ") (codes "x") (pos 0) (done 0 0 0 None [])
    ∷ by One (codes " ") (codes " " ++ 9 ∷ 10 ∷ 11 ∷ 12 ∷ 13 ∷ []) (pos 0) (done 0 0 6 (Some End) [])
    ∷ by One (codes "%d ") (codes "5" ++ 10 ∷ []) (pos 1) (done 1 1 2 (Some End) (number 1 5 ∷ []))
    ∷ by One (codes "%d ") (codes "5" ++ 10 ∷ 10 ∷ codes " 6") (pos 1) (done 1 1 4 None (number 1 5 ∷ []))
    ∷ by One (codes "%c %c") (codes "a b") (pos 2) (done 2 2 3 None (text 1 (codes "a") ∷ text 2 (codes "b") ∷ []))
    ∷ []

-- p6: bytes that stand for themselves
abbrev pub literals : List Example
literals =
    by One (codes "a%d") (codes "b1") (pos 0) (report MatchingFailure 1 0 0 0 None [])
    ∷ by One (codes "ab%d") (codes "ac1") (pos 0) (report MatchingFailure 2 0 0 1 None [])
    ∷ by One (codes "ab%d") (codes "ab1") (pos 1) (done 1 1 3 (Some End) (number 1 1 ∷ []))
    ∷ by One (codes "x") [] (negsuc 0) (report InputFailure 1 0 0 0 (Some End) [])
    ∷ by One (codes "%d,%d") (codes "1,") (pos 1) (report InputFailure 3 1 1 2 (Some End) (number 1 1 ∷ []))
    ∷ by One (codes "%d,%d") (codes "1 ,2") (pos 1) (report MatchingFailure 2 1 1 1 None (number 1 1 ∷ []))
    ∷ by One (codes "%d ,%d") (codes "1 ,2") (pos 2) (done 2 2 4 (Some End) (number 1 1 ∷ number 2 2 ∷ []))
    ∷ by One (codes "A") (codes "a") (pos 0) (report MatchingFailure 1 0 0 0 None [])
    ∷ []

-- p7, p8: white space before an item, and `%%`
abbrev pub skipped : List Example
skipped =
    by One (codes "%d") (codes "  5;") (pos 1) (done 1 1 3 None (number 1 5 ∷ []))
    ∷ by One (codes "%d") (10 ∷ 9 ∷ codes "5;") (pos 1) (done 1 1 3 None (number 1 5 ∷ []))
    ∷ by One (codes "%s") (codes " " ++ 9 ∷ codes "ab c") (pos 1) (done 1 1 4 None (text 1 (codes "ab") ∷ []))
    ∷ by One (codes "%c") (codes " a") (pos 1) (done 1 1 1 None (text 1 (codes " ") ∷ []))
    ∷ by One (codes " %c") (codes "  a") (pos 1) (done 1 1 3 None (text 1 (codes "a") ∷ []))
    ∷ by One (codes "%[a-z]") (codes " a") (pos 0) (report MatchingFailure 1 0 0 0 None [])
    ∷ by One (codes "%%") (codes " %") (pos 0) (done 0 0 2 None [])
    ∷ by One (codes "%%") (codes " x") (pos 0) (report MatchingFailure 1 0 0 1 None [])
    ∷ by One (codes "%n%d") (codes " 5;") (pos 1) (done 1 1 2 None (number 1 0 ∷ number 2 5 ∷ []))
    ∷ []

-- p9: input items
abbrev pub input_items : List Example
input_items =
    by One (codes "%d") (codes "12a") (pos 1) (done 1 1 2 None (number 1 12 ∷ []))
    ∷ by One (codes "%d") (codes "+-5") (pos 0) (report MatchingFailure 1 0 0 1 None [])
    ∷ by One (codes "%d") (codes "-") (pos 0) (report MatchingFailure 1 0 0 1 (Some End) [])
    ∷ by One (codes "%d") (codes "x") (pos 0) (report MatchingFailure 1 0 0 0 None [])
    ∷ by One (codes "%x") (codes "0xg") (pos 0) (report MatchingFailure 1 0 0 2 None [])
    ∷ by One (codes "%x") (codes "0x1G") (pos 1) (done 1 1 3 None (given 1 (Number kind.U32 (pos 1)) ∷ []))
    ∷ by One (codes "%i") (codes "0x") (pos 0) (report MatchingFailure 1 0 0 2 (Some End) [])
    ∷ by One (codes "%i") (codes "089") (pos 1) (done 1 1 1 None (number 1 0 ∷ []))
    ∷ by One (codes "%o") (codes "78") (pos 1) (done 1 1 1 None (given 1 (Number kind.U32 (pos 7)) ∷ []))
    ∷ by Three (codes "%f") (codes "1e+") (pos 0) (report MatchingFailure 1 0 0 3 (Some End) [])
    ∷ by Three (codes "%f") (codes "infx") (pos 1) (done 1 1 3 None (pattern 1 2139095040 ∷ []))
    ∷ by Three (codes "%f") (codes "infin") (pos 0) (report MatchingFailure 1 0 0 5 (Some End) [])
    ∷ by Three (codes "%f") (codes ".") (pos 0) (report MatchingFailure 1 0 0 1 (Some End) [])
    ∷ by One (codes "%3c") (codes "ab") (pos 0) (report MatchingFailure 1 0 0 2 (Some End) [])
    ∷ []

-- p9: widths
abbrev pub widths : List Example
widths =
    by One (codes "%2d%d") (codes "12345") (pos 2) (done 2 2 5 (Some End) (number 1 12 ∷ number 2 345 ∷ []))
    ∷ by One (codes "%3d") (codes "  1234") (pos 1) (done 1 1 5 None (number 1 123 ∷ []))
    ∷ by One (codes "%1d") (codes "-5") (pos 0) (report MatchingFailure 1 0 0 1 None [])
    ∷ by One (codes "%2d") (codes "-57") (pos 1) (done 1 1 2 None (given 1 (Number kind.I32 (neg_ℤ (pos 5))) ∷ []))
    ∷ by One (codes "%2x") (codes "0x1") (pos 0) (report MatchingFailure 1 0 0 2 None [])
    ∷ by One (codes "%3s%s") (codes "abcdef") (pos 2) (done 2 2 6 (Some End) (text 1 (codes "abc") ∷ text 2 (codes "def") ∷ []))
    ∷ by One (codes "%9s") (codes "ab cd") (pos 1) (done 1 1 2 None (text 1 (codes "ab") ∷ []))
    ∷ by One (codes "%2c") (codes "abc") (pos 1) (done 1 1 2 None (text 1 (codes "ab") ∷ []))
    ∷ by One (codes "%5[a-c]") (codes "abcabc") (pos 1) (done 1 1 5 None (text 1 (codes "abcab") ∷ []))
    ∷ by Three (codes "%4f") (codes "3.14159") (pos 1) (done 1 1 4 None (pattern 1 1078523331 ∷ []))
    ∷ []

-- p10: what is stored, or out of range; p3 of POSIX: numbers of slots
abbrev pub values : List Example
values =
    by One (codes "%hhd") (codes "-128;") (pos 1) (done 1 1 4 None (given 1 (Number kind.I8 (neg_ℤ (pos 128))) ∷ []))
    ∷ by One (codes "%hhd") (codes "128;") (pos 0) (report OutOfRange 1 0 0 3 None [])
    ∷ by One (codes "%hhu") (codes "255;") (pos 1) (done 1 1 3 None (given 1 (Number kind.U8 (pos 255)) ∷ []))
    ∷ by One (codes "%hhu") (codes "-1;") (pos 1) (done 1 1 2 None (given 1 (Number kind.U8 (pos 255)) ∷ []))
    ∷ by One (codes "%d") (codes "2147483647;") (pos 1) (done 1 1 10 None (number 1 2147483647 ∷ []))
    ∷ by One (codes "%d") (codes "2147483648;") (pos 0) (report OutOfRange 1 0 0 10 None [])
    ∷ by One (codes "%d") (codes "-2147483648;") (pos 1) (done 1 1 11 None (given 1 (Number kind.I32 (neg_ℤ (pos 2147483648))) ∷ []))
    ∷ by One (codes "%llu") (codes "18446744073709551615;") (pos 1)
    (done 1 1 20 None (given 1 (Number kind.U64 (pos 18446744073709551615)) ∷ []))
    ∷ by One (codes "%2$d %1$s") (codes "7 up;") (pos 2) (done 2 2 5 (Some End) (number 2 7 ∷ text 1 (codes "up;") ∷ []))
    ∷ []

-- p10: suppressed conversions
abbrev pub suppressed : List Example
suppressed =
    by One (codes "%*d%d") (codes "1 2;") (pos 1) (done 1 2 3 None (number 1 2 ∷ []))
    ∷ by One (codes "%*s %d") (codes "ab 5;") (pos 1) (done 1 2 4 None (number 1 5 ∷ []))
    ∷ by One (codes "%*c%c") (codes "ab") (pos 1) (done 1 2 2 None (text 1 (codes "b") ∷ []))
    ∷ by One (codes "%*2c%c") (codes "abc") (pos 1) (done 1 2 3 None (text 1 (codes "c") ∷ []))
    ∷ by One (codes "%*[^,],%d") (codes "ab,5;") (pos 1) (done 1 2 4 None (number 1 5 ∷ []))
    ∷ by One (codes "%*hhd") (codes "300;") (pos 0) (done 0 1 3 None [])
    ∷ by One (codes "%*d") (codes "x") (pos 0) (report MatchingFailure 1 0 0 0 None [])
    ∷ by Three (codes "%*f%d") (codes "1.5 2;") (pos 1) (done 1 2 5 None (number 1 2 ∷ []))
    ∷ []

-- p11, p12: letters and lengths
abbrev pub conversions : List Example
conversions =
    by One (codes "%d") (codes "-42;") (pos 1) (done 1 1 3 None (given 1 (Number kind.I32 (neg_ℤ (pos 42))) ∷ []))
    ∷ by One (codes "%d") (codes "+42;") (pos 1) (done 1 1 3 None (number 1 42 ∷ []))
    ∷ by One (codes "%d") (codes "007;") (pos 1) (done 1 1 3 None (number 1 7 ∷ []))
    ∷ by One (codes "%i") (codes "17;") (pos 1) (done 1 1 2 None (number 1 17 ∷ []))
    ∷ by One (codes "%i") (codes "017;") (pos 1) (done 1 1 3 None (number 1 15 ∷ []))
    ∷ by One (codes "%i") (codes "-0X1F,") (pos 1) (done 1 1 5 None (given 1 (Number kind.I32 (neg_ℤ (pos 31))) ∷ []))
    ∷ by One (codes "%u") (codes "42;") (pos 1) (done 1 1 2 None (given 1 (Number kind.U32 (pos 42)) ∷ []))
    ∷ by One (codes "%o") (codes "17;") (pos 1) (done 1 1 2 None (given 1 (Number kind.U32 (pos 15)) ∷ []))
    ∷ by One (codes "%x") (codes "fF;") (pos 1) (done 1 1 2 None (given 1 (Number kind.U32 (pos 255)) ∷ []))
    ∷ by One (codes "%X") (codes "0xff;") (pos 1) (done 1 1 4 None (given 1 (Number kind.U32 (pos 255)) ∷ []))
    ∷ by One (codes "%hd") (codes "-7;") (pos 1) (done 1 1 2 None (given 1 (Number kind.I16 (neg_ℤ (pos 7))) ∷ []))
    ∷ by One (codes "%ld") (codes "-7;") (pos 1) (done 1 1 2 None (given 1 (Number kind.I64 (neg_ℤ (pos 7))) ∷ []))
    ∷ by One (codes "%s") (codes "a,b c") (pos 1) (done 1 1 3 None (text 1 (codes "a,b") ∷ []))
    ∷ by One (codes "%c") (codes "ab") (pos 1) (done 1 1 1 None (text 1 (codes "a") ∷ []))
    ∷ by Three (codes "%a") (codes "0x1p3;") (pos 1) (done 1 1 5 None (pattern 1 1090519040 ∷ []))
    ∷ by Three (codes "%e") (codes "1e2;") (pos 1) (done 1 1 3 None (pattern 1 1120403456 ∷ []))
    ∷ by Three (codes "%g") (codes "-.5;") (pos 1) (done 1 1 3 None (pattern 1 3204448256 ∷ []))
    ∷ by Three (codes "%lf") (codes "0.25;") (pos 1) (done 1 1 4 None (given 1 (Real (F64 4598175219545276416)) ∷ []))
    ∷ []

-- p12: sets
abbrev pub sets : List Example
sets =
    by One (codes "%[abc]") (codes "cab1") (pos 1) (done 1 1 3 None (text 1 (codes "cab") ∷ []))
    ∷ by One (codes "%[^abc]") (codes "xyza") (pos 1) (done 1 1 3 None (text 1 (codes "xyz") ∷ []))
    ∷ by One (codes "%[a-c]") (codes "abcd") (pos 1) (done 1 1 3 None (text 1 (codes "abc") ∷ []))
    ∷ by One (codes "%[]a]") (codes "]ab") (pos 1) (done 1 1 2 None (text 1 (codes "]a") ∷ []))
    ∷ by One (codes "%[^]]") (codes "ab]") (pos 1) (done 1 1 2 None (text 1 (codes "ab") ∷ []))
    ∷ by One (codes "%[a-]") (codes "a-b") (pos 1) (done 1 1 2 None (text 1 (codes "a-") ∷ []))
    ∷ by One (codes "%[^" ++ 10 ∷ codes "]") (codes "a b" ++ 10 ∷ codes "c") (pos 1) (done 1 1 3 None (text 1 (codes "a b") ∷ []))
    ∷ by One (codes "%[x]") [] (negsuc 0) (report InputFailure 1 0 0 0 (Some End) [])
    ∷ by One (codes "%[x]") (codes "y") (pos 0) (report MatchingFailure 1 0 0 0 None [])
    ∷ by One (codes "%[^,],%[^,]") (codes "a,b,c") (pos 2) (done 2 2 3 None (text 1 (codes "a") ∷ text 2 (codes "b") ∷ []))
    ∷ []

-- p12: counts
abbrev pub counts : List Example
counts =
    by One (codes "%n") (codes "ab") (pos 0) (done 0 0 0 None (number 1 0 ∷ []))
    ∷ by One (codes "%d%n") (codes "12 ") (pos 1) (done 1 1 2 None (number 1 12 ∷ number 2 2 ∷ []))
    ∷ by One (codes "%d %n") (codes "12  x") (pos 1) (done 1 1 4 None (number 1 12 ∷ number 2 4 ∷ []))
    ∷ by One (codes "%s%n%s") (codes "ab cd") (pos 2) (done 2 2 5 (Some End) (text 1 (codes "ab") ∷ number 2 2 ∷ text 3 (codes "cd") ∷ []))
    ∷ by One (codes "%*d%n") (codes "  12x") (pos 0) (done 0 1 4 None (number 1 4 ∷ []))
    ∷ by One (codes "ab%n") (codes "abc") (pos 0) (done 0 0 2 None (number 1 2 ∷ []))
    ∷ by One (codes "%hhn%c") (codes "x") (pos 1) (done 1 1 1 None (given 1 (Number kind.I8 (pos 0)) ∷ text 2 (codes "x") ∷ []))
    ∷ []

-- items that may be missing: ours
abbrev pub missing : List Example
missing =
    by Three (codes "%?d,%d") (codes ",5;") (pos 1) (done 1 1 2 None (number 2 5 ∷ []))
    ∷ by Three (codes "%?d,%d") (codes "4,5;") (pos 2) (done 2 2 3 None (number 1 4 ∷ number 2 5 ∷ []))
    ∷ by Three (codes "%?d,%?d") (codes ",x") (pos 0) (done 0 0 1 None [])
    ∷ by Three (codes "%?d") [] (pos 0) (done 0 0 0 (Some End) [])
    ∷ by Three (codes "%?d") (codes "-x") (pos 0) (report MatchingFailure 1 0 0 1 None [])
    ∷ by Three (codes "%?[^,],%d") (codes ",7;") (pos 1) (done 1 1 2 None (number 2 7 ∷ []))
    ∷ []

-- p16: what is returned
abbrev pub ends : List Example
ends =
    by One (codes "%d") [] (negsuc 0) (report InputFailure 1 0 0 0 (Some End) [])
    ∷ by One (codes "%d") (codes "  ") (negsuc 0) (report InputFailure 1 0 0 2 (Some End) [])
    ∷ by One (codes "%s") (10 ∷ []) (negsuc 0) (report InputFailure 1 0 0 1 (Some End) [])
    ∷ by One (codes "%d%d") (codes "1") (pos 1) (report InputFailure 2 1 1 1 (Some End) (number 1 1 ∷ []))
    ∷ by One (codes "%*d%d") (codes "1") (pos 0) (report InputFailure 2 0 1 1 (Some End) [])
    ∷ by One (codes "%c%c") (codes "a") (pos 1) (report InputFailure 2 1 1 1 (Some End) (text 1 (codes "a") ∷ []))
    ∷ by One (codes "%d %d") (codes "1 x") (pos 1) (report MatchingFailure 3 1 1 2 None (number 1 1 ∷ []))
    ∷ by One [] (codes "ab") (pos 0) (done 0 0 0 None [])
    ∷ by One (codes "%%%d") (codes "%") (negsuc 0) (report InputFailure 2 0 0 1 (Some End) [])
    ∷ by One (codes "%n%d") [] (negsuc 0) (report InputFailure 2 0 0 0 (Some End) (number 1 0 ∷ []))
    ∷ []

-- all of them, by what they show
abbrev pub examples : List (List Example)
examples =
    white_space
    ∷ literals
    ∷ skipped
    ∷ input_items
    ∷ widths
    ∷ values
    ∷ suppressed
    ∷ conversions
    ∷ sets
    ∷ counts
    ∷ missing
    ∷ ends
    ∷ []
