-- Worked examples: what is computed of each is what it says.
use Rattle.std.proofs.Common.{◌≡◌, ℤ, Bool, true, List, [], ◌∷◌, map, Option, Some, None, refl, ap}
use Rattle.std.specs.List.{list_all, AllByRecursion}
use Rattle.std.specs.Float.{float_is_infinite}
use Rattle.std.specs.Float.Numeral.{scan_numeral}
use Rattle.std.specs.Float.Parse.{read_float}
use lib.Ieee.{round, to_bits}
use Rattle.sf_float_read.specs.value.Computed.{stored_in}
use Rattle.sf_format.specs.declared.directive.Directive.{Directive}
use Rattle.sf_format.specs.Grammar.{Spells}
use Rattle.sf_format.specs.Laws.{EachIsProper}
use Rattle.sf_report.specs.declared.outcome.Ending.TheVariants.{End}
use Rattle.sf_report.specs.Examples.{most}
use Rattle.sf_report.specs.Runs.{RunReport, c_return}
use Rattle.sf_report.proofs.Rows.{row_is}
use Rattle.sf_report.proofs.Told.{is_open, report_within}
use Rattle.sf_laws_tests.specs.Examples as examples
use Rattle.sf_laws_tests.specs.Examples.{Example, IsTold, AreTold}
use Rattle.sf_laws_tests.proofs.Spelling.{is_byte, bytes_are, directives_of, spells}

-- whether the format is one of bytes, the report, and what is returned
abbrev Answer : Type 0
Answer = Bool × (RunReport × ℤ)

-- what is computed by the directives
abbrev by_directives : Example → Option (List Directive) → Option Answer
by_directives e None = None
by_directives e (Some ds) = Some (list_all is_byte e.format, (report_within ds most e.input End, c_return e.told))

abbrev computed : Example → Option Answer
computed e = by_directives e (directives_of e.profile e.format)

abbrev wanted : Example → Option Answer
wanted e = Some (true, (e.told, e.returned))

abbrev Agree : List Example → Type 0
Agree es = map computed es ≡ map wanted es

no_answer : (a : Answer) → None ≡ Some a → ⊥
no_answer a e = absurd cc

-- the three parts of an answer
parts : {A B C : Type 0} (a x : A) (b y : B) (c z : C) → ◌≡◌ {A = Option (A × (B × C))} (Some (a, (b, c))) (Some (x, (y, z)))
    → (a ≡ x) × (b ≡ y) × (c ≡ z)
parts {A} {B} {C} a x b y c z e =
    let same : ◌≡◌ {A = A × (B × C)} (a, (b, c)) (x, (y, z)) = cc in
    (ap (λ (p : A × (B × C)). p.0) same, ap (λ (p : A × (B × C)). p.1.0) same, ap (λ (p : A × (B × C)). p.1.1) same)

first_and_others : {A : Type 0} (x y : A) (xs ys : List A) → x ∷ xs ≡ y ∷ ys → (x ≡ y) × (xs ≡ ys)
first_and_others x y xs ys e = (cc, cc)

told_is : EachIsProper → (e : Example) → computed e ≡ wanted e → IsTold e
told_is proper e h = by (directives_of e.profile e.format) refl h
  where
    by : (ds : Option (List Directive)) → directives_of e.profile e.format ≡ ds → by_directives e ds ≡ wanted e → IsTold e
    by None is k = absurd (no_answer (true, (e.told, e.returned)) k)
    by (Some ds) is k =
        let same = parts (list_all is_byte e.format) true (report_within ds most e.input End) e.told (c_return e.told) e.returned k in
        let spelled : Spells e.profile e.format ds = spells e.profile e.format ds (bytes_are e.format same.0) is in
        record {
          directives = ds;
          spelled = spelled;
          reported = row_is ds (proper e.profile e.format ds spelled).proper most e.input End e.told same.1;
          returned = same.2;
        }

all_told : EachIsProper → (es : List Example) → Agree es → AreTold es
all_told proper [] h = tt
all_told proper (e ∷ es) h =
    let same = first_and_others (computed e) (wanted e) (map computed es) (map wanted es) h in
    (told_is proper e same.0, all_told proper es same.1)

white_space : Agree examples.white_space
unfolding is_open
white_space = refl

literals : Agree examples.literals
unfolding is_open
literals = refl

skipped : Agree examples.skipped
unfolding is_open
skipped = refl

input_items : Agree examples.input_items
unfolding is_open stored_in read_float scan_numeral float_is_infinite round to_bits
input_items = refl

widths : Agree examples.widths
unfolding is_open stored_in read_float scan_numeral float_is_infinite round to_bits
widths = refl

values : Agree examples.values
unfolding is_open
values = refl

suppressed : Agree examples.suppressed
unfolding is_open stored_in read_float scan_numeral float_is_infinite round to_bits
suppressed = refl

conversions : Agree examples.conversions
unfolding is_open stored_in read_float scan_numeral float_is_infinite round to_bits
conversions = refl

sets : Agree examples.sets
unfolding is_open
sets = refl

counts : Agree examples.counts
unfolding is_open
counts = refl

missing : Agree examples.missing
unfolding is_open
missing = refl

ends : Agree examples.ends
unfolding is_open
ends = refl

pub examples_told : EachIsProper → AllByRecursion AreTold examples.examples
examples_told proper = (
  all_told proper examples.white_space white_space,
  (
    all_told proper examples.literals literals,
    (
      all_told proper examples.skipped skipped,
      (
        all_told proper examples.input_items input_items,
        (
          all_told proper examples.widths widths,
          (
            all_told proper examples.values values,
            (
              all_told proper examples.suppressed suppressed,
              (
                all_told proper examples.conversions conversions,
                (
                  all_told proper examples.sets sets,
                  (
                    all_told proper examples.counts counts,
                    (
                      all_told proper examples.missing missing,
                      (all_told proper examples.ends ends, tt),
                    ),
                  ),
                ),
              ),
            ),
          ),
        ),
      ),
    ),
  ),
)
