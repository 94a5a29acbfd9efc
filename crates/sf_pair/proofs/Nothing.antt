-- A run on the empty input.
use Rattle.std.proofs.Common.{◌≡◌, ℕ, zero, suc, ◌+◌, ◌<◌, ◌≤◌, inl, Bool, true, false, cond, ◌&&◌, List, [], ◌∷◌, length, take, drop}
use Rattle.std.proofs.Common.{Option}
use Rattle.std.proofs.Common.{}
use Rattle.std.proofs.Common.{◌*◌, nat_lt, min, unwrap_or, Some, None, is_some, refl, sym, ap, subst, ◌∙◌, arith, lit≤, eq-eqb, append-nil}
use Rattle.std.proofs.Common.{zero-add}
use Rattle.std.proofs.lemmas.Bool.Decides.{nat_tests}
use Rattle.std.proofs.lemmas.List.{drop_all}
use Rattle.std.proofs.lemmas.List.Sums.{sum_by-cons}
use Rattle.std.specs.List.{sum_by, list_any}
use Rattle.sf_base.specs.Bytes.{is_white}
use Rattle.sf_base.specs.Sets.{has_byte}
use Rattle.sf_format.specs.declared.directive.Base.{Base}
use Rattle.sf_format.specs.declared.directive.Numeral.{Numeral}
use Rattle.sf_format.specs.declared.directive.Base.TheVariants.{Dec, Oct, Hex, Bin, Auto, AutoBin}
use Rattle.sf_format.specs.declared.directive.Lead.{Lead}
use Rattle.sf_format.specs.declared.directive.Lead.TheVariants.{Any, Minus, Nothing}
use Rattle.sf_format.specs.declared.directive.Shape.{Shape}
use Rattle.sf_format.specs.declared.directive.Shape.TheVariants as shape
use Rattle.sf_format.specs.declared.directive.Conversion.{Conversion}
use Rattle.sf_format.specs.declared.directive.Directive.{Directive}
use Rattle.sf_format.specs.declared.directive.Directive.TheVariants as directive
use Rattle.sf_format.specs.declared.unit.Unit.{Unit as PrintUnit}
use Rattle.sf_format.specs.Proper.{IsProperShape, IsProperWidth, IsProper, AreProper, more_of}
use Rattle.sf_item.specs.Radices.{radices, first_radix}
use Rattle.sf_item.specs.Progress.{Progress, Start, Digits}
use Rattle.sf_item.specs.Columns.{column_width}
use Rattle.sf_item.specs.Tests.{read, is_within, shape_begins, can_take}
use Rattle.sf_print.specs.Printed.{printed}
use Rattle.sf_report.specs.declared.outcome.Status.TheVariants.{Done, InputFailure}
use Rattle.sf_report.specs.declared.outcome.Ending.TheVariants.{End}
use Rattle.sf_report.specs.Steps.{StepEnd, Passes, Stores, Misses, Fails}
use Rattle.sf_report.specs.Runs.{Ran, RunReport, Run, IsOpen, bytes_used, status_of, count_converted, report_of, is_conversion}
use Rattle.sf_report.specs.Runs.{left_out, over, passed}
use Rattle.sf_report.specs.Machine.{empty_end}
use Rattle.sf_report.specs.Computed.{skip_under, skip_before, len, item_part, conversion_step, byte_choice, step_by, step_of, go_on}
use Rattle.sf_report.specs.Computed.{column_len, column_ended, ran_of, ran_past}
use Rattle.sf_pair.specs.conversions.Below.{LawsBelow}
use Rattle.sf_pair.specs.Groups.{is_count, is_left_out, IsConversionGroup, AreCut, assigns, next_of}
use Rattle.sf_pair.specs.Laws.{read_back, AlignedEndsOnNothing, PrintsSome}
use Rattle.sf_pair.proofs.Paired.{and_so, or_none}
use Rattle.sf_pair.proofs.Numbers.{start_opens}
use Rattle.sf_pair.proofs.Whole.{round_trip}

-- ---- what is used of nothing, and of one byte that is taken

after : (d : Directive) (x : List ℕ) (k n : ℕ) (end : StepEnd) (ds : List Directive) → k ≡ length x
    → ((m n : ℕ) → bytes_used (ran_past m ds [] n) ≡ 0)
    → bytes_used (record { directive = d; bytes = k; end = end } ∷ go_on end (ran_past (over d end) ds (drop k x) (n + k))) ≡ k
after d x k n end ds e none = sum_by-cons (λ (r : Ran). r.bytes) (record { directive = d; bytes = k; end = end })
    (go_on end (ran_past (over d end) ds (drop k x) (n + k))) ∙ by end
  where
    rest : (m : ℕ) → bytes_used (ran_past m ds (drop k x) (n + k)) ≡ 0
    rest m = ap (λ (y : List ℕ). bytes_used (ran_past m ds y (n + k))) (drop_all k x (omega (arith, e))) ∙ none m (n + k)

    by : (end : StepEnd) → k + bytes_used (go_on end (ran_past (over d end) ds (drop k x) (n + k))) ≡ k
    by Passes = omega (arith, rest 0)
    by (Stores slot v) = omega (arith, rest 0)
    by Misses = omega (arith, rest (more_of d))
    by (Fails status) = omega arith

none_past : LawsBelow → (ds : List Directive) (m n : ℕ) → bytes_used (ran_past m ds [] n) ≡ 0
none_past laws [] m n = refl
none_past laws (d ∷ ds) zero n =
    let none : (step_of d [] n).0 ≡ 0 = omega (arith, laws.within d [] n) in
    after d [] (step_of d [] n).0 n (step_of d [] n).1 ds none (none_past laws ds) ∙ none
none_past laws (d ∷ ds) (suc m) n =
    sum_by-cons (λ (r : Ran). r.bytes) (left_out d) (ran_past m ds [] n) ∙ ap (λ (k : ℕ). 0 + k) (none_past laws ds m n)

used_none : LawsBelow → (ds : List Directive) (n : ℕ) → bytes_used (ran_of ds [] n) ≡ 0
used_none laws ds n = none_past laws ds 0 n

one_used : LawsBelow → (d : Directive) (ds : List Directive) (b : ℕ) → (step_of d (b ∷ []) 0).0 ≡ 1
    → bytes_used (ran_of (d ∷ ds) (b ∷ []) 0) ≡ 1
one_used laws d ds b one = after d (b ∷ []) (step_of d (b ∷ []) 0).0 0 (step_of d (b ∷ []) 0).1 ds one (none_past laws ds) ∙ one

-- ---- some byte is taken

within_one : (o : Option ℕ) → IsProperWidth o → is_within o 1 ≡ true
within_one None h = refl
within_one (Some w) h = grind (arith, nat_tests)

one_digit : (numeral : Numeral) → is_some (read numeral (Some Start) (49 ∷ [])) ≡ true
one_digit numeral =
    ap (λ (o : Option Progress). is_some (read numeral o [])) (start_opens numeral 49 (lit≤ tt))
    ∙ ap (λ (t : Bool). is_some (read numeral (cond t (Some (Digits false (first_radix numeral) (0 * first_radix numeral + 1))) None) []))
    (by numeral.base)
  where
    by : (base : Base) → nat_lt 1 (radices base).first ≡ true
    by Dec = refl
    by Oct = refl
    by Hex = refl
    by Bin = refl
    by Auto = refl
    by AutoBin = refl

-- no white space is skipped before such a byte, nor where there is none
no_white : (b : ℕ) → is_white b ≡ false → (lead : Lead) → skip_under lead (b ∷ []) ≡ 0
no_white b e Any = ap (λ (t : Bool). cond t 1 0) e
no_white b e Minus = refl
no_white b e Nothing = refl

no_skip : (lead : Lead) → skip_under lead [] ≡ 0
no_skip Any = refl
no_skip Minus = refl
no_skip Nothing = refl

float_digit : (lead : Lead) → shape_begins (shape.Float lead) None (49 ∷ []) ≡ true
float_digit Any = refl
float_digit Minus = refl
float_digit Nothing = refl

takes_first : (s : Conversion) (b : ℕ) → can_take s (b ∷ []) ≡ true → len s [] (b ∷ []) ≡ 1
takes_first s b e = ap (λ (t : Bool). cond t (suc (len s (b ∷ []) [])) 0) e

-- a byte that the conversion takes, with no white space before it
pub record OneTaken (s : Conversion) : Type 0 where
  pub byte : ℕ
  pub small : byte < 256
  pub unskipped : skip_before s.shape (byte ∷ []) ≡ 0
  pub takes : shape_begins s.shape s.width (byte ∷ []) ≡ true

chars_one : (o : Option ℕ) → IsProperWidth o → shape_begins shape.Chars o (0 ∷ []) ≡ true
chars_one None h = refl
chars_one (Some w) h = let low : 1 ≤ w = h in grind (arith, nat_tests)

one_taken : (s : Conversion) (h : Shape) → s.shape ≡ h → is_count h ≡ false → IsProperShape h → IsProperWidth s.width → OneTaken s
one_taken s (shape.Int numeral) e no_count shaped wide = record {
  byte = 49;
  small = omega arith;
  unskipped = ap (λ (h : Shape). skip_before h (49 ∷ [])) e ∙ no_white 49 refl numeral.lead;
  takes = ap (λ (h : Shape). shape_begins h s.width (49 ∷ [])) e ∙ one_digit numeral;
}
one_taken s (shape.Text lead) e no_count shaped wide = record {
  byte = 97;
  small = omega arith;
  unskipped = ap (λ (h : Shape). skip_before h (97 ∷ [])) e ∙ no_white 97 refl lead;
  takes = ap (λ (h : Shape). shape_begins h s.width (97 ∷ [])) e;
}
one_taken s (shape.Set members) e no_count (b, small, member) wide = record {
  byte = b;
  small = small;
  unskipped = ap (λ (h : Shape). skip_before h (b ∷ [])) e;
  takes = ap (λ (h : Shape). shape_begins h s.width (b ∷ [])) e ∙ and_so (has_byte members b) true member refl;
}
one_taken s shape.Chars e no_count shaped wide = record {
  byte = 0;
  small = omega arith;
  unskipped = ap (λ (h : Shape). skip_before h (0 ∷ [])) e;
  takes = ap (λ (h : Shape). shape_begins h s.width (0 ∷ [])) e ∙ chars_one s.width wide;
}
one_taken s (shape.Float lead) e no_count shaped wide = record {
  byte = 49;
  small = omega arith;
  unskipped = ap (λ (h : Shape). skip_before h (49 ∷ [])) e ∙ no_white 49 refl lead;
  takes = ap (λ (h : Shape). shape_begins h s.width (49 ∷ [])) e ∙ float_digit lead;
}
one_taken s shape.Count e no_count shaped wide = absurd cc

-- a conversion other than n that takes no column is the item after what is skipped
item_of : (s : Conversion) (x : List ℕ) (n : ℕ) → s.column ≡ false → is_count s.shape ≡ false
    → step_of (directive.Conv s) x n ≡ item_part s x (skip_before s.shape x)
item_of s x n item e = ap (λ (t : Bool). step_by t s x n) item ∙ by s.shape e
  where
    by : (h : Shape) → is_count h ≡ false → conversion_step s h x n ≡ item_part s x (skip_before s.shape x)
    by shape.Count e = absurd cc
    by _ e = refl

conversion_takes : (s : Conversion) (n : ℕ) → s.column ≡ false → is_count s.shape ≡ false → IsProperWidth s.width → (t : OneTaken s)
    → (step_of (directive.Conv s) (t.byte ∷ []) n).0 ≡ 1
conversion_takes s n item no_count wide t =
    ap (λ (r : ℕ × StepEnd). r.0) (item_of s (t.byte ∷ []) n item no_count ∙ ap (item_part s (t.byte ∷ [])) t.unskipped)
    ∙ ap (λ (k : ℕ). 0 + k) (takes_first s t.byte (and_so (is_within s.width 1) (shape_begins s.shape s.width (t.byte ∷ []))
    (within_one s.width wide) t.takes))

-- a column takes each byte
column_takes : (s : Conversion) (b n : ℕ) → s.column ≡ true → IsProperWidth s.width → (step_of (directive.Conv s) (b ∷ []) n).0 ≡ 1
column_takes s b n column wide =
    ap (λ (t : Bool). (step_by t s (b ∷ []) n).0) column ∙ one (column_width s) (by s.width wide)
  where
    one : (w : ℕ) → 1 ≤ w → min 1 w ≡ 1
    one w h = omega (arith, h)

    by : (o : Option ℕ) → IsProperWidth o → 1 ≤ unwrap_or o 1
    by None h = omega arith
    by (Some w) h = h

not_left_out : (s : Conversion) (group rest : List PrintUnit) (next : Option Directive)
    → IsConversionGroup (is_left_out s) (is_some s.slot) s group rest next → is_left_out s ≡ false
not_left_out s group rest next is = by (is_left_out s) is
  where
    by : (t : Bool) → IsConversionGroup t (is_some s.slot) s group rest next → t ≡ false
    by true h = absurd h
    by false h = refl

no_count_in : (s : Conversion) → is_left_out s ≡ false → is_count s.shape ≡ false
no_count_in s e = (or_none (is_count s.shape) s.optional e).0

abbrev FirstTaken : Directive → Type 0
FirstTaken d = (b : ℕ) × (b < 256) × ((step_of d (b ∷ []) 0).0 ≡ 1)

first_taken : (d : Directive) (ds : List Directive) (us : List PrintUnit) → IsProper d → AreCut (d ∷ ds) us → FirstTaken d
first_taken directive.Space ds us proper cut = (32, omega arith, refl)
first_taken (directive.Byte a) ds us proper cut = (a, proper, ap (λ (t : Bool). (byte_choice t).0) (eq-eqb a a refl))
first_taken directive.Percent ds us proper cut = (37, omega arith, refl)
first_taken (directive.Opens o) ds us proper (group, rest, parts, is, more) = absurd is
first_taken (directive.Conv s) ds us proper (group, rest, parts, is, more) =
    let no_count = no_count_in s (not_left_out s group rest (next_of ds) is) in
    let t = one_taken s s.shape refl no_count proper.0 proper.1 in
    by t no_count s.column refl
  where
    by : OneTaken s → is_count s.shape ≡ false → (t : Bool) → s.column ≡ t → FirstTaken (directive.Conv s)
    by t no_count true column = (97, omega arith, column_takes s 97 0 column proper.1)
    by t no_count false item = (t.byte, t.small, conversion_takes s 0 item no_count proper.1 t)

goes_on : LawsBelow → (ds : List Directive) (us : List PrintUnit) → AreProper ds → AreCut ds us → list_any assigns ds ≡ true → IsOpen ds []
goes_on laws [] us proper cut some = absurd cc
goes_on laws (d ∷ ds) us proper cut some =
    let f = first_taken d ds us proper.0 cut in (
      f.0,
      f.1,
      (
        ran_of (d ∷ ds) (f.0 ∷ []) 0,
        (laws.runs (d ∷ ds) proper (f.0 ∷ []) 0 (ran_of (d ∷ ds) (f.0 ∷ []) 0)).1 refl,
        one_used laws d ds f.0 f.2,
      ),
    )

-- ---- the failure

abbrev FailsFirst : List Ran → Type 0
FailsFirst ran = (status_of ran ≡ InputFailure) × (count_converted ran ≡ 0)

conversion_fails : (s : Conversion) (n : ℕ) → is_left_out s ≡ false → step_of (directive.Conv s) [] n ≡ (0, Fails InputFailure)
conversion_fails s n e = ends s.column refl
    ∙ ap (λ (t : Bool). (0, cond t Misses (Fails InputFailure))) (or_none (is_count s.shape) s.optional e).1
  where
    by : (h : Shape) → skip_before h [] ≡ 0
    by (shape.Int numeral) = no_skip numeral.lead
    by (shape.Text lead) = no_skip lead
    by (shape.Float lead) = no_skip lead
    by _ = refl

    ends : (t : Bool) → s.column ≡ t → step_of (directive.Conv s) [] n ≡ (0, empty_end s false)
    ends true column =
        let none : column_len s [] ≡ 0 = least_none (column_width s) in
        ap (λ (t : Bool). step_by t s [] n) column ∙ (λ i. (none i, column_ended s [] (take (none i) [])))
      where
        least_none : (w : ℕ) → min 0 w ≡ 0
        least_none w = omega arith
    ends false item = item_of s [] n item (no_count_in s e) ∙ ap (item_part s []) (by s.shape)

fails_first : (ds : List Directive) (us : List PrintUnit) (n : ℕ) → AreCut ds us → list_any assigns ds ≡ true → FailsFirst (ran_of ds [] n)
fails_first [] us n cut some = absurd cc
fails_first (directive.Space ∷ ds) us n (group, rest, parts, is, more) some =
    let h = fails_first ds rest (n + 0) more some in (
      h.0,
      sum_by-cons (λ (r : Ran). cond (is_conversion r.directive && passed r.end) 1 0)
          (record { directive = directive.Space; bytes = 0; end = Passes }) (ran_of ds [] (n + 0))
          ∙ zero-add (count_converted (ran_of ds [] (n + 0))) ∙ h.1,
    )
fails_first (directive.Byte a ∷ ds) us n cut some = (refl, refl)
fails_first (directive.Percent ∷ ds) us n cut some = (refl, refl)
fails_first (directive.Opens o ∷ ds) us n (group, rest, parts, is, more) some = absurd is
fails_first (directive.Conv s ∷ ds) us n (group, rest, parts, is, more) some =
    subst (λ (r : ℕ × StepEnd). FailsFirst (record { directive = directive.Conv s; bytes = r.0; end = r.1 } ∷ go_on r.1
    (ran_past (over (directive.Conv s) r.1) ds (drop r.0 []) (n + r.0))))
    (sym (conversion_fails s n (not_left_out s group rest (next_of ds) is))) (refl, none_converted s)
  where
    none_converted : (s : Conversion)
        → count_converted (record { directive = directive.Conv s; bytes = 0; end = Fails InputFailure } ∷ []) ≡ 0
    none_converted s = by (is_conversion (directive.Conv s))
      where
        by : (t : Bool) → sum_by (λ (r : Ran). cond (t && passed r.end) 1 0)
            (record { directive = directive.Conv s; bytes = 0; end = Fails InputFailure } ∷ []) ≡ 0
        by true = refl
        by false = refl

pub ends_on_nothing : LawsBelow → AlignedEndsOnNothing
ends_on_nothing laws us ds proper aligned =
    let f = fails_first ds us 0 aligned.cut aligned.assigned in
    record {
      report = report_of (ran_of ds [] 0) (Some End);
      run = (
        ran_of ds [] 0,
        (laws.runs ds proper.proper [] 0 (ran_of ds [] 0)).1 refl,
        Some End,
        (goes_on laws ds us proper.proper aligned.cut aligned.assigned, refl),
        refl,
      );
      status = f.0;
      converted = f.1;
      used = used_none laws ds 0;
      met = refl;
    }

-- ---- what is printed is some text

empty : (xs : List ℕ) → length xs ≡ 0 → xs ≡ []
empty [] e = refl
empty (x ∷ xs) e = absurd (omega (arith, e))

no_failure : (a b : RunReport) → a ≡ b → a.status ≡ Done → b.status ≡ InputFailure → ⊥
no_failure a b e f g = let same : Done ≡ InputFailure = sym f ∙ ap (λ (r : RunReport). r.status) e ∙ g in absurd cc

pub prints_some : LawsBelow → PrintsSome
prints_some laws us ds accepted proper aligned values fit = by (length (printed us values)) refl
  where
    by : (n : ℕ) → length (printed us values) ≡ n → 0 < n
    by (suc n) e = omega arith
    by zero e =
        let e : printed us values ≡ [] = empty (printed us values) e in
        let back : Run ds [] End (read_back us ds values) = subst (λ (x : List ℕ). Run ds x End (read_back us ds values))
        (append-nil (printed us values) ∙ e) (round_trip laws us ds accepted proper aligned values fit [] End) in
        let n = ends_on_nothing laws us ds proper aligned in
        let o = laws.reports ds proper.proper 0 [] End in
        let short : length (printed us values) ≤ 0 = omega (arith, ap length e) in
        absurd (no_failure (read_back us ds values) n.report (o.only (read_back us ds values) (inl (short, back))
        ∙ sym (o.only n.report (inl (omega (arith, n.used), n.run)))) refl n.status)
