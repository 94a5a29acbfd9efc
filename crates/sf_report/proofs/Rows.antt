-- Worked examples: what each format makes of an input, computed, is its one report.
use Rattle.std.proofs.Common.{◌≡◌, ℕ, ◌+◌, ◌-◌, ◌&&◌, ◌||◌, nat_eq, nat_le, Bool, List, [], ◌∷◌, ◌++◌, length, codes, drop}
use Rattle.std.proofs.Common.{Some, None, pos, negsuc, refl, ap, ◌∙◌, subst, inr, arith, lit<, lit≤}
use Rattle.std.specs.Float.{float_is_infinite}
use Rattle.std.specs.Float.Numeral.{scan_numeral}
use Rattle.std.specs.Float.Parse.{read_float}
use lib.Ieee.{round, to_bits}
use Rattle.sf_base.specs.Data.{Number, Bytes}
use Rattle.sf_base.specs.declared.values.Kind.TheVariants as kind
use Rattle.sf_float_read.specs.value.Computed.{stored_in}
use Rattle.sf_format.specs.declared.directive.Base.TheVariants.{Dec, Hex, Auto}
use Rattle.sf_format.specs.declared.directive.Directive.{Directive}
use Rattle.sf_format.specs.declared.directive.Directive.TheVariants.{Space, Byte}
use Rattle.sf_format.specs.Proper.{AreProper}
use Rattle.sf_report.specs.declared.outcome.Ending.{Ending}
use Rattle.sf_report.specs.declared.outcome.Ending.TheVariants.{End, Fault}
use Rattle.sf_report.specs.declared.outcome.Status.TheVariants.{Done, InputFailure, MatchingFailure, OutOfRange, NoMemory}
use Rattle.sf_report.specs.Steps.{StepEnd, Passes, Stores, Misses, Fails}
use Rattle.sf_report.specs.Runs.{Ran, GoesOn, Steps, RunReport, c_return}
use Rattle.sf_report.specs.Limits as limits
use Rattle.sf_report.specs.Limits.{RunWithin, RunRefused, RunTold}
use Rattle.sf_report.specs.Runs as runs
use Rattle.sf_report.specs.Examples.{Reports, int, suppressed, word, chars, set, report, given, most, first_format, second_format}
use Rattle.sf_report.specs.Examples.{third_format, rest_of_line, fourth_format, Example2, Example3, Example4, C11Examples, PosixExamples}
use Rattle.sf_report.specs.Examples.{CountExamples, LimitExamples, MemoryExamples, StrictExamples, ColumnExamples, OurExamples}
use Rattle.sf_report.specs.Examples.{int_column, text_column}
use Rattle.sf_report.proofs.RunLaws.{steps_is}
use Rattle.sf_report.proofs.Skips.{skip_is, skip_only}
use Rattle.sf_report.proofs.Told.{is_open, report_within, report_is, report_only}

-- what is computed is the one report
pub row_is : (ds : List Directive) → AreProper ds → (m : ℕ) (x : List ℕ) (ending : Ending) (told : RunReport)
    → report_within ds m x ending ≡ told → Reports ds m x ending told
row_is ds proper m x ending told e = record {
  is = subst (RunWithin ds m x ending) e (report_is ds proper m x ending);
  only = λ other h. report_only ds proper m x ending other h ∙ e;
}

-- ---- rows

-- %d,%d on 12,-7
row_two_integers : Reports (int Dec kind.I32 None 1 ∷ Byte 44 ∷ int Dec kind.I32 None 2 ∷ []) most (49 ∷ 50 ∷ 44 ∷ 45 ∷ 55 ∷ []) End
    (report Done 0 2 2 5 (Some End) (given 1 (Number kind.I32 (pos 12)) ∷ given 2 (Number kind.I32 (negsuc 6)) ∷ []))
unfolding is_open
row_two_integers = row_is _ ((tt, tt), (lit< tt, ((tt, tt), tt))) _ _ _ _ refl

-- %d on nothing
row_nothing : Reports (int Dec kind.I32 None 1 ∷ []) most [] End
    (report InputFailure 1 0 0 0 (Some End) [])
unfolding is_open
row_nothing = row_is _ ((tt, tt), tt) _ _ _ _ refl

-- %d on nothing, where a read fails
row_fault : Reports (int Dec kind.I32 None 1 ∷ []) most [] Fault
    (report InputFailure 1 0 0 0 (Some Fault) [])
unfolding is_open
row_fault = row_is _ ((tt, tt), tt) _ _ _ _ refl

-- %x on 0xg
row_prefix_alone : Reports (int Hex kind.U32 None 1 ∷ []) most (48 ∷ 120 ∷ 103 ∷ []) End
    (report MatchingFailure 1 0 0 2 None [])
unfolding is_open
row_prefix_alone = row_is _ ((tt, tt), tt) _ _ _ _ refl

-- %2x on 0x1
row_prefix_cut : Reports (int Hex kind.U32 (Some 2) 1 ∷ []) most (48 ∷ 120 ∷ 49 ∷ []) End
    (report MatchingFailure 1 0 0 2 None [])
unfolding is_open
row_prefix_cut = row_is _ ((tt, lit≤ tt), tt) _ _ _ _ refl

-- %i on 089
row_octal_cut : Reports (int Auto kind.I32 None 1 ∷ []) most (48 ∷ 56 ∷ 57 ∷ []) End
    (report Done 0 1 1 1 None (given 1 (Number kind.I32 (pos 0)) ∷ []))
unfolding is_open
row_octal_cut = row_is _ ((tt, tt), tt) _ _ _ _ refl

-- %d on -
row_minus_alone : Reports (int Dec kind.I32 None 1 ∷ []) most (45 ∷ []) End
    (report MatchingFailure 1 0 0 1 (Some End) [])
unfolding is_open
row_minus_alone = row_is _ ((tt, tt), tt) _ _ _ _ refl

-- %3c on ab
row_too_few : Reports (chars (Some 3) 1 ∷ []) most (97 ∷ 98 ∷ []) End
    (report MatchingFailure 1 0 0 2 (Some End) [])
unfolding is_open
row_too_few = row_is _ ((tt, lit≤ tt), tt) _ _ _ _ refl

-- %hhd on -128
row_least : Reports (int Dec kind.I8 None 1 ∷ []) most (45 ∷ 49 ∷ 50 ∷ 56 ∷ []) End
    (report Done 0 1 1 4 (Some End) (given 1 (Number kind.I8 (negsuc 127)) ∷ []))
unfolding is_open
row_least = row_is _ ((tt, tt), tt) _ _ _ _ refl

-- %hhd on 128
row_above : Reports (int Dec kind.I8 None 1 ∷ []) most (49 ∷ 50 ∷ 56 ∷ []) End
    (report OutOfRange 1 0 0 3 (Some End) [])
unfolding is_open
row_above = row_is _ ((tt, tt), tt) _ _ _ _ refl

-- %hhu on -1
row_wraps : Reports (int Dec kind.U8 None 1 ∷ []) most (45 ∷ 49 ∷ []) End
    (report Done 0 1 1 2 (Some End) (given 1 (Number kind.U8 (pos 255)) ∷ []))
unfolding is_open
row_wraps = row_is _ ((tt, tt), tt) _ _ _ _ refl

-- %hhu on -256
row_wraps_out : Reports (int Dec kind.U8 None 1 ∷ []) most (45 ∷ 50 ∷ 53 ∷ 54 ∷ []) End
    (report OutOfRange 1 0 0 4 (Some End) [])
unfolding is_open
row_wraps_out = row_is _ ((tt, tt), tt) _ _ _ _ refl

-- the members of []a-c]
abbrev listed : ℕ → Bool
listed b = nat_eq b 93 || (nat_le 97 b && nat_le b 99)

-- %[]a-c] on a]cd
row_set : Reports (set listed (Some 1) ∷ []) most (97 ∷ 93 ∷ 99 ∷ 100 ∷ []) End
    (report Done 0 1 1 3 None (given 1 (Bytes (97 ∷ 93 ∷ 99 ∷ [])) ∷ []))
unfolding is_open
row_set = row_is _ (((93, lit< tt, refl), tt), tt) _ _ _ _ refl

-- %2$d %1$s on 7 up
row_numbered : Reports (int Dec kind.I32 None 2 ∷ Space ∷ word None 1 ∷ []) most (55 ∷ 32 ∷ 117 ∷ 112 ∷ []) End
    (report Done 0 2 2 4 (Some End) (given 2 (Number kind.I32 (pos 7)) ∷ given 1 (Bytes (117 ∷ 112 ∷ [])) ∷ []))
unfolding is_open
row_numbered = row_is _ ((tt, tt), (tt, ((tt, tt), tt))) _ _ _ _ refl

-- %i on -0X1F,
row_hexadecimal : Reports (int Auto kind.I32 None 1 ∷ []) most (45 ∷ 48 ∷ 88 ∷ 49 ∷ 70 ∷ 44 ∷ []) End
    (report Done 0 1 1 5 None (given 1 (Number kind.I32 (negsuc 30)) ∷ []))
unfolding is_open
row_hexadecimal = row_is _ ((tt, tt), tt) _ _ _ _ refl

-- %d on +-5
row_two_signs : Reports (int Dec kind.I32 None 1 ∷ []) most (43 ∷ 45 ∷ 53 ∷ []) End
    (report MatchingFailure 1 0 0 1 None [])
unfolding is_open
row_two_signs = row_is _ ((tt, tt), tt) _ _ _ _ refl

-- %1d on -5
row_sign_alone : Reports (int Dec kind.I32 (Some 1) 1 ∷ []) most (45 ∷ 53 ∷ []) End
    (report MatchingFailure 1 0 0 1 None [])
unfolding is_open
row_sign_alone = row_is _ ((tt, lit≤ tt), tt) _ _ _ _ refl

-- %c on a blank and a
row_blank : Reports (chars None 1 ∷ []) most (32 ∷ 97 ∷ []) End
    (report Done 0 1 1 1 None (given 1 (Bytes (32 ∷ [])) ∷ []))
unfolding is_open
row_blank = row_is _ ((tt, tt), tt) _ _ _ _ refl

-- %d on two blanks
row_blanks : Reports (int Dec kind.I32 None 1 ∷ []) most (32 ∷ 32 ∷ []) End
    (report InputFailure 1 0 0 2 (Some End) [])
unfolding is_open
row_blanks = row_is _ ((tt, tt), tt) _ _ _ _ refl

-- %d %d on 1 x
row_other_byte : Reports (int Dec kind.I32 None 1 ∷ Space ∷ int Dec kind.I32 None 2 ∷ []) most (49 ∷ 32 ∷ 120 ∷ []) End
    (report MatchingFailure 3 1 1 2 None (given 1 (Number kind.I32 (pos 1)) ∷ []))
unfolding is_open
row_other_byte = row_is _ ((tt, tt), (tt, ((tt, tt), tt))) _ _ _ _ refl

-- %d%d on 1
row_stays : Reports (int Dec kind.I32 None 1 ∷ int Dec kind.I32 None 2 ∷ []) most (49 ∷ []) End
    (report InputFailure 2 1 1 1 (Some End) (given 1 (Number kind.I32 (pos 1)) ∷ []))
unfolding is_open
row_stays = row_is _ ((tt, tt), ((tt, tt), tt)) _ _ _ _ refl

-- %*d%d on 1
row_after_suppressed : Reports (suppressed Dec kind.I32 ∷ int Dec kind.I32 None 1 ∷ []) most (49 ∷ []) End
    (report InputFailure 2 0 1 1 (Some End) [])
unfolding is_open
row_after_suppressed = row_is _ ((tt, tt), ((tt, tt), tt)) _ _ _ _ refl

-- ---- what fscanf returns

return_at_end : c_return (report InputFailure 1 0 0 0 (Some End) []) ≡ negsuc 0
return_at_end = refl

return_after_suppressed : c_return (report InputFailure 2 0 1 1 (Some End) []) ≡ pos 0
return_after_suppressed = refl

return_unmatched : c_return (report MatchingFailure 1 0 0 1 (Some End) []) ≡ pos 0
return_unmatched = refl

-- ---- C11 and POSIX

first_proper : AreProper first_format
first_proper = ((tt, tt), ((tt, tt), ((tt, tt), tt)))

second_proper : AreProper second_format
second_proper = ((tt, lit≤ tt), ((tt, tt), ((tt, tt), (tt, (((48, lit< tt, refl), tt), tt)))))

third_proper : AreProper third_format
third_proper = ((tt, tt), ((tt, lit≤ tt), (tt, (lit< tt, (lit< tt, (tt, ((tt, lit≤ tt), tt)))))))

rest_proper : AreProper rest_of_line
rest_proper = (((0, lit< tt, refl), tt), tt)

fourth_proper : AreProper fourth_format
fourth_proper = ((tt, tt), ((tt, tt), ((tt, tt), ((tt, tt), tt))))

second : Example2
unfolding is_open stored_in read_float scan_numeral float_is_infinite round to_bits
second = row_is _ second_proper _ _ _ _ refl

third : Example3
unfolding is_open stored_in read_float scan_numeral float_is_infinite round to_bits
third = record {
  quarts = row_is _ third_proper _ _ _ _ refl;
  nothing_left = row_is _ rest_proper _ _ _ _ refl;
  degrees = row_is _ third_proper _ _ _ _ refl;
  celsius = row_is _ rest_proper _ _ _ _ refl;
  lots = row_is _ third_proper _ _ _ _ refl;
  dirt = row_is _ third_proper _ _ _ _ refl;
  ergs = row_is _ third_proper _ _ _ _ refl;
  end = row_is _ third_proper _ _ _ _ refl;
  eof = refl;
}

fourth : Example4
unfolding is_open stored_in read_float scan_numeral float_is_infinite round to_bits
fourth = record { counts = row_is _ fourth_proper _ _ _ _ refl; returned = refl }

pub c11_examples : C11Examples
unfolding is_open stored_in read_float scan_numeral float_is_infinite round to_bits
c11_examples = record { first = row_is _ first_proper _ _ _ _ refl; second = second; third = third; fourth = fourth }

pub posix_examples : PosixExamples
unfolding is_open stored_in read_float scan_numeral float_is_infinite round to_bits
posix_examples = record { first = row_is _ first_proper _ _ _ _ refl; second = second }

-- ---- ours

counts : CountExamples
unfolding is_open
counts = record {
  percent = row_is _ ((tt, tt), (tt, tt)) _ _ _ _ refl;
  suppressed_then_count = row_is _ ((tt, tt), ((tt, tt), tt)) _ _ _ _ refl;
}

limited : LimitExamples
unfolding is_open
limited = record {
  cut_word = row_is _ ((tt, tt), tt) _ _ _ _ refl;
  at_limit = row_is _ ((tt, tt), tt) _ _ _ _ refl;
  cut_later = row_is _ ((tt, tt), (tt, ((tt, tt), tt))) _ _ _ _ refl;
}

-- no directive runs after the last one
ends : (end : StepEnd) (y : List ℕ) (n : ℕ) (before : List Ran) (cut : Ran) (rest : List Ran)
    → GoesOn end (Steps [] y n (before ++ (cut ∷ rest))) (before ++ (cut ∷ rest)) → ⊥
ends Passes y n [] cut rest h = h
ends Passes y n (b ∷ before) cut rest h = h
ends (Stores slot v) y n [] cut rest h = h
ends (Stores slot v) y n (b ∷ before) cut rest h = h
ends Misses y n [] cut rest h = h
ends Misses y n (b ∷ before) cut rest h = h
ends (Fails status) y n [] cut rest h = absurd (omega (arith, ap (λ (t : List Ran). length t) h))
ends (Fails status) y n (b ∷ before) cut rest h = absurd (omega (arith, ap (λ (t : List Ran). length t) h))

-- a run of one directive was cut in this one
alone : (d : Directive) (x : List ℕ) (before : List Ran) (cut : Ran) (rest : List Ran) → Steps (d ∷ []) x 0 (before ++ (cut ∷ rest))
    → cut.directive ≡ d
alone d x [] cut rest h = h.0
alone d x (b ∷ before) cut rest h = absurd (ends b.end (drop b.bytes x) (0 + b.bytes) before cut rest h.2)

-- where it stores no text, memory is never refused
never : (d : Directive) → ((y : List ℕ) (k : ℕ) → limits.StoresAt d y k → ⊥) → (m : ℕ) (x : List ℕ) (r : RunReport)
    → RunRefused (d ∷ []) m x r → ⊥
never d stores m x r h =
    let before = h.2.0 in
    let cut = h.2.1 in
    stores _ _ (subst (λ (z : Directive). limits.StoresAt z (drop (runs.bytes_used before) x) (h.0 - runs.bytes_used before))
    (alone d x before cut.cut cut.rest cut.steps) h.2.2)

refused : MemoryExamples
refused = record {
  text =
      inr (
        1,
        lit< tt,
        (
          [],
          record {
            cut = record { directive = word None 1; bytes = 2; end = Stores 1 (Bytes (codes "ab")) };
            rest = [];
            steps = steps_is (word None 1 ∷ []) ((tt, tt), tt) (codes "ab") 0;
            low = lit≤ tt;
            high = lit< tt;
          },
          (refl, (0, skip_is (codes "ab"), lit≤ tt)),
          refl,
        ),
      );
  integer = λ m x r. never (int Dec kind.I32 None 1) (λ y k h. h) m x r;
  byte = λ m x r. never (Byte 97) (λ y k h. h) m x r;
}

strict : StrictExamples
unfolding is_open
strict = record {
  blank = row_is _ ((tt, tt), tt) _ _ _ _ refl;
  plus = row_is _ ((tt, tt), tt) _ _ _ _ refl;
  zeros = row_is _ ((tt, tt), tt) _ _ _ _ refl;
  prefix = row_is _ ((tt, tt), tt) _ _ _ _ refl;
  missing = row_is _ ((tt, tt), ((tt, tt), tt)) _ _ _ _ refl;
}

-- a limit for memory is met at the first byte that is stored
not_before_text : RunRefused (text_column 4 1 ∷ []) most (codes " ab") (report NoMemory 1 0 0 0 None []) → ⊥
not_before_text (k, low, (before, cut, stores, is)) =
    let used : 0 ≡ k = ap (λ (r : RunReport). r.used) is in
    let place : 1 ≡ length before + 1 = ap (λ (r : RunReport). r.at) is in
    by before cut stores (omega (arith, place)) (omega (arith, used))
  where
    by : (before : List Ran) (cut : limits.IsCut (text_column 4 1 ∷ []) (codes " ab") k before)
        → limits.StoresAt cut.cut.directive (drop (runs.bytes_used before) (codes " ab")) (k - runs.bytes_used before)
        → length before ≡ 0 → k ≡ 0 → ⊥
    by (b ∷ before) cut stores none zero = cc
    by [] cut stores none zero =
        let (some, (s, skip, past)) = subst (λ (z : Directive). limits.StoresAt z (codes " ab") (k - 0))
        (alone (text_column 4 1) (codes " ab") [] cut.cut cut.rest cut.steps) stores in
        let one : s ≡ 1 = skip_only (codes " ab") s skip in
        omega (arith, past, one, zero)

columns_refused : RunTold (text_column 4 1 ∷ []) most (codes " ab") End (report NoMemory 1 0 0 1 None [])
columns_refused =
    inr (
      1,
      lit< tt,
      (
        [],
        record {
          cut = record { directive = text_column 4 1; bytes = 3; end = Stores 1 (Bytes (codes "ab")) };
          rest = [];
          steps = steps_is (text_column 4 1 ∷ []) ((tt, lit≤ tt), tt) (codes " ab") 0;
          low = lit≤ tt;
          high = lit< tt;
        },
        (refl, (1, skip_is (codes " ab"), lit≤ tt)),
        refl,
      ),
    )

columns : ColumnExamples
unfolding is_open stored_in read_float scan_numeral float_is_infinite round to_bits
columns = record {
  around = row_is _ ((tt, lit≤ tt), tt) _ _ _ _ refl;
  inside = row_is _ ((tt, lit≤ tt), tt) _ _ _ _ refl;
  short = row_is _ ((tt, lit≤ tt), tt) _ _ _ _ refl;
  nothing = row_is _ ((tt, lit≤ tt), tt) _ _ _ _ refl;
  blank = row_is _ ((tt, lit≤ tt), tt) _ _ _ _ refl;
  missing = row_is _ ((tt, lit≤ tt), tt) _ _ _ _ refl;
  strict_blank = row_is _ ((tt, lit≤ tt), tt) _ _ _ _ refl;
  strict_number = row_is _ ((tt, lit≤ tt), tt) _ _ _ _ refl;
  words = row_is _ ((tt, lit≤ tt), tt) _ _ _ _ refl;
  float = row_is _ ((tt, lit≤ tt), tt) _ _ _ _ refl;
  next = row_is _ ((tt, lit≤ tt), ((tt, lit≤ tt), tt)) _ _ _ _ refl;
  refused = columns_refused;
  not_before = not_before_text;
  integer = λ m x r. never (int_column 5 1) (λ y k h. h) m x r;
}

pub our_examples : OurExamples
our_examples = record { counts = counts; limits = limited; memory = refused; strict = strict; columns = columns }
