-- The format that counts on a line.
use Rattle.std.proofs.Common.{zero, ℕ}
use Rattle.std.proofs.Common.{◌≡◌, suc, ◌+◌, ◌<◌, ◌≤◌, true, false, List, [], ◌∷◌, ◌++◌, length, take, drop, get_or, Option, Some, None}
use Rattle.std.proofs.Common.{Bool, Result, Ok, ◌⊎◌, inl, inr, refl, sym, ap, subst, ◌∙◌, arith, true≢false}
use Rattle.std.specs.Prelude.{is_some, not}
use Rattle.std.specs.List.{AllByRecursion, Contains}
use Rattle.std.proofs.Math.Seq.{drop-cons}
use Rattle.std.proofs.lemmas.List.{take_more, take_all, take-append-drop, length-drop, length-take-le}
use Rattle.sf_format.specs.declared.directive.Directive.{Directive}
use Rattle.sf_run.specs.outcome.Ending.{Ending}
use Rattle.sf_run.specs.outcome.Ending.TheVariants.{End}
use Rattle.sf_run.specs.Runs.{RunReport}
use Rattle.sf_run.specs.Limits.{RunWithin}
use Rattle.sf_records.specs.declared.by_lines.options.LinesOptions.{LinesOptions}
use Rattle.sf_records.specs.declared.by_lines.end.LineFault.{LineFault}
use Rattle.sf_records.specs.declared.by_lines.judge.Tried.{Tried}
use Rattle.sf_records.specs.declared.by_lines.judge.Tried.TheVariants.{Matched, Missed, Refused}
use Rattle.sf_forms.specs.declared.makers.maker.Unwritten.{Unwritten}
use Rattle.sf_forms.specs.makers.Works.{Makes, SameWithMet, Work, Writes, with_met}
use Rattle.sf_records.specs.by_lines.Judging.{Fits, IgnoresOrNot, IsRunOn, MatchesOrNot, Tries, TriesEach}
use Rattle.sf_records.specs.by_lines.Turns.{Matches, Misses, Picks, fault_of, used_whole}

-- ---- facts of each of a list

pub all_append : {A : Type 0} (P : A → Type 0) (xs ys : List A) → AllByRecursion P xs → AllByRecursion P ys → AllByRecursion P (xs ++ ys)
all_append P [] ys h k = k
all_append P (x ∷ xs) ys h k = (h.0, all_append P xs ys h.1 k)

-- and of one more
pub all_more : {A : Type 0} (P : A → Type 0) (xs : List A) (i : ℕ) (x : A) → i < length xs → x ≡ get_or xs i x
    → AllByRecursion P (take i xs) → P x → AllByRecursion P (take (i + 1) xs)
all_more P xs i x lt is h p = subst (AllByRecursion P) (sym (take_more xs i x lt))
    (all_append P (take i xs) (get_or xs i x ∷ []) h (subst P is p, tt))

pub all_taken : {A : Type 0} (P : A → Type 0) (xs : List A) (i : ℕ) → length xs ≤ i → AllByRecursion P (take i xs) → AllByRecursion P xs
all_taken P xs i le h = subst (AllByRecursion P) (take_all i xs le) h

-- of one of the list
pub all_at : {A : Type 0} (P : A → Type 0) (xs : List A) → AllByRecursion P xs → (x : A) → Contains xs x → P x
all_at P [] h x (k, lt, at) = absurd (omega (arith, lt))
all_at P (y ∷ xs) h x (zero, lt, at) = subst P at h.0
all_at P (y ∷ xs) h x (suc k, lt, at) = all_at P xs h.1 x (k, omega (arith, lt), at)

pub contains_first : {A : Type 0} (x : A) (xs : List A) → Contains (x ∷ xs) x
contains_first x xs = (0, omega arith, refl)

pub contains_later : {A : Type 0} (y x : A) (xs : List A) → Contains xs x → Contains (y ∷ xs) x
contains_later y x xs (k, lt, at) = (suc k, omega (arith, lt), at)

-- a list about one of it
around : {A : Type 0} (xs : List A) (i : ℕ) (x : A) → i < length xs → x ≡ get_or xs i x → xs ≡ take i xs ++ x ∷ drop (i + 1) xs
around xs i x lt is =
    let on : i + 1 ≡ suc i = omega arith in
    sym (take-append-drop i xs) ∙ ap (λ ys. take i xs ++ ys) (drop-cons xs i x lt ∙ ap (λ y. y ∷ drop (suc i) xs) (sym is)
    ∙ ap (λ n. x ∷ drop n xs) (sym on))

empty_list : {A : Type 0} (xs : List A) → length xs ≡ 0 → xs ≡ []
empty_list [] e = refl
empty_list (x ∷ xs) e = absurd (omega (arith, e))

-- ---- reports

-- the format after so many counts, where the line is a match by it, or it is the last
pub picks : (o : LinesOptions) (formats : List (List Directive)) (line : List ℕ) (ds : List Directive) (r : RunReport) (i : ℕ)
    → i < length formats → ds ≡ get_or formats i ds
    → AllByRecursion (Misses o line) (take i formats) → RunWithin ds o.limit line End r → (fault_of o line r ≡ None)
    ⊎ (i + 1 ≡ length formats) → Picks o formats line ds r
picks o formats line ds r i lt is before ran why = record {
  before = take i formats;
  after = drop (i + 1) formats;
  among = around formats i ds lt is;
  missed = before;
  ran = ran;
  counts = last why;
}
  where
    last : (fault_of o line r ≡ None) ⊎ (i + 1 ≡ length formats) → (fault_of o line r ≡ None) ⊎ (drop (i + 1) formats ≡ [])
    last (inl none) = inl none
    last (inr end) = inr (empty_list (drop (i + 1) formats) (omega (arith, length-drop (i + 1) formats, end)))

-- ---- what came of the line by one format

-- a match that was seen at once
pub tries_seen : (o : LinesOptions) (ds : List Directive) (made : Work) (line : List ℕ) (report : RunReport)
    → ((met : Option Ending) → SameWithMet made report met) → Fits o ds line report
    → (old new : Option (List ℕ)) (wrote : Result (Unit {0}) Unwritten) → Makes made report old new wrote
    → Tries o ds made line old new (Matched wrote)
tries_seen o ds made line report unmet (met, ran, none) old new wrote h =
    let same = unmet met in (
      with_met report met,
      ran,
      none,
      subst (λ t. Writes (made.fits (with_met report met)) t old new wrote) (sym same.text)
          (subst (λ b. Writes b (made.text report) old new wrote) (sym same.fits) h),
    )

pub fits_seen : (o : LinesOptions) (ds : List Directive) (line : List ℕ) (report : RunReport) → IsRunOn o ds line report
    → fault_of o line report ≡ None → Fits o ds line report
fits_seen o ds line report (met, ran, same) none = (met, ran, same ∙ none)

pub matched_so : (o : LinesOptions) (line : List ℕ) (ds : List Directive) (b : Bool) → b ≡ true
    → MatchesOrNot o line ds (Ok b) → Matches o line ds
matched_so o line ds true e h = h
matched_so o line ds false e h = absurd (true≢false (sym e))

pub missed_so : (o : LinesOptions) (line : List ℕ) (ds : List Directive) (b : Bool) → b ≡ false
    → MatchesOrNot o line ds (Ok b) → Misses o line ds
missed_so o line ds true e h = absurd (true≢false e)
missed_so o line ds false e h = h

pub ignored_so : (o : LinesOptions) (line : List ℕ) (ignored : List (List Directive)) (b : Bool) → b ≡ true
    → IgnoresOrNot o line ignored (Ok b) → (ds : List Directive) × Contains ignored ds × Matches (used_whole o) line ds
ignored_so o line ignored true e h = h
ignored_so o line ignored false e h = absurd (true≢false (sym e))

pub read_so : (o : LinesOptions) (line : List ℕ) (ignored : List (List Directive)) (b : Bool) → b ≡ false
    → IgnoresOrNot o line ignored (Ok b) → AllByRecursion (Misses (used_whole o) line) ignored
read_so o line ignored true e h = absurd (true≢false e)
read_so o line ignored false e h = h

-- by the run's report
pub matches_by : (o : LinesOptions) (line : List ℕ) (ds : List Directive) (r : RunReport) → RunWithin ds o.limit line End r
    → (fault : Option LineFault) → fault ≡ fault_of o line r → (b : Bool) → is_some fault ≡ not b → MatchesOrNot o line ds (Ok b)
matches_by o line ds r ran None fault_is true e = (r, ran, sym fault_is)
matches_by o line ds r ran None fault_is false e = absurd (true≢false (sym e))
matches_by o line ds r ran (Some fault) fault_is true e = absurd (true≢false e)
matches_by o line ds r ran (Some fault) fault_is false e = (r, ran, ap is_some (sym fault_is))

-- it counts, unless the line doesn't match it
pub each_of : (o : LinesOptions) (formats : List (List Directive)) (makes : ℕ → List Directive → Work) (line : List ℕ)
    (old new : Option (List ℕ)) (ds : List Directive) (i : ℕ) → i < length formats → ds ≡ get_or formats i ds
    → AllByRecursion (Misses o line) (take i formats) → (tried : Tried)
    → ((fault : LineFault) → tried ≡ Missed fault → i + 1 ≡ length formats)
    → Tries o ds (makes (i + 1) ds) line old new tried → TriesEach o formats makes line old new tried
unfolding picks
each_of o formats makes line old new ds i lt is before (Matched wrote) last (r, ran, none, wrote_so) = (
  ds,
  r,
  picks o formats line ds r i lt is before ran (inl none),
  none,
  subst (λ (n : ℕ). Makes (makes n ds) r old new wrote) {x = i + 1} {y = length (take i formats) + 1}
      (ap (λ (n : ℕ). n + 1) (sym (length-take-le i formats (omega (arith, lt))))) wrote_so,
)
each_of o formats makes line old new ds i lt is before (Missed fault) last (r, ran, some) =
    (ds, r, picks o formats line ds r i lt is before ran (inr (last fault refl)), some)
each_of o formats makes line old new ds i lt is before Refused last h = tt

-- a format that it doesn't match
pub misses : (o : LinesOptions) (ds : List Directive) (made : Work) (line : List ℕ) (old new : Option (List ℕ))
    (fault : LineFault) → Tries o ds made line old new (Missed fault) → Misses o line ds
misses o ds made line old new fault (r, ran, some) = (r, ran, ap is_some some)
