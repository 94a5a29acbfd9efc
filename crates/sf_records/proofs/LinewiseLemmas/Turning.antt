-- What comes of lines: that it is told of each, and joined.
use Rattle.std.proofs.Common.{◌≡◌, ℕ, zero, suc, ◌+◌, ◌<◌, ◌≤◌, Bool, true, false, cond, List, [], ◌∷◌, ◌++◌, length, take, Option, Some}
use Rattle.std.proofs.Common.{None, Err, ◌⊎◌, inl, inr, refl, sym, ap, subst, ◌∙◌, arith, append_assoc, append-nil, length-append, ◌&&◌}
use Rattle.std.specs.Prelude.{IsSome, nat_lt, not}
use Rattle.std.proofs.lemmas.List.{take-append-le}
use Rattle.std.specs.List.{AllByRecursion, Contains, count_by}
use Rattle.std.proofs.lemmas.Grind.{flat_map-append}
use Rattle.std.proofs.lemmas.List.Sums.{sum_by-append}
use Rattle.sf_format.specs.declared.directive.Directive.{Directive}
use Rattle.sf_format.specs.Proper.{AreProper}
use Rattle.sf_forms.specs.makers.Works.{Work, outcome_of}
use Rattle.sf_run.specs.outcome.Ending.TheVariants.{End}
use Rattle.sf_run.specs.outcome.Outcome.{Outcome}
use Rattle.sf_run.specs.outcome.Status.{Status}
use Rattle.sf_run.specs.outcome.Status.TheVariants.{Done, InputFailure, MatchingFailure, OutOfRange, NoMemory}
use Rattle.sf_run.specs.outcome.Status.TheVariants as statuses
use Rattle.sf_run.specs.Runs.{RunReport}
use Rattle.sf_run.specs.Laws.{EachHasOneReport}
use Rattle.sf_records.specs.declared.by_lines.end.LineFault.{LineFault}
use Rattle.sf_records.specs.declared.by_lines.end.LineFault.TheVariants.{Failed, LeftOver, TooLong, Unfit}
use Rattle.sf_records.specs.by_lines.Turns.{AreScanned, LineWork, Matches, Miss, Misses, Picks, Turn, IsJudged, Comes, fault_of, number_of}
use Rattle.sf_records.specs.by_lines.Turns.{fault_from, is_other, judged, turn_by, used_whole, written_by}
use Rattle.sf_records.proofs.LinewiseLemmas.Choosing.{all_append, contains_first, contains_later}
use Rattle.sf_records.specs.by_lines.Loops.{IfGoing, AllGoOn, AreTurns, ends_long, goes_on, is_long, tellings}
use Rattle.sf_records.specs.by_lines.Loops.{telling_of, texts, text_of}

-- ---- lines after each of which the loop goes on

abbrev pub Passed : LineWork → ℕ → List (List ℕ) → List Turn → Type 0
Passed w n [] turns = turns ≡ []
Passed w n (line ∷ lines) [] = ⊥
Passed w n (line ∷ lines) (turn ∷ turns) = Comes w (n + 1) line turn × (goes_on w turn ≡ true) × Passed w (n + 1) lines turns

pub passed_length : (w : LineWork) (n : ℕ) (front : List (List ℕ)) (done : List Turn) → Passed w n front done → length done ≡ length front
passed_length w n [] done p = ap length p
passed_length w n (line ∷ front) [] p = absurd p
passed_length w n (line ∷ front) (turn ∷ done) p = ap (λ (k : ℕ). suc k) (passed_length w (n + 1) front done p.2)

-- the loop stops at none of them
pub all_went_on : (w : LineWork) (n : ℕ) (front : List (List ℕ)) (done : List Turn) → Passed w n front done → AllGoOn w done
all_went_on w n [] done p = subst (AllGoOn w) (sym p) tt
all_went_on w n (line ∷ front) [] p = absurd p
all_went_on w n (line ∷ front) (turn ∷ done) p = (p.1, all_went_on w (n + 1) front done p.2)

pub if_going : (b : Bool) {rest : Type 0} (turns : List Turn) → b ≡ true → rest → IfGoing b rest turns
if_going true turns e h = h
if_going false turns e h = absurd (cc)

pub if_stopped : (b : Bool) (rest : Type 0) (turns : List Turn) → b ≡ false → turns ≡ [] → IfGoing b rest turns
if_stopped true rest turns e h = absurd (cc)
if_stopped false rest turns e h = h

-- what comes of these, and then of more
pub passed_then : (w : LineWork) (n : ℕ) (front more : List (List ℕ)) (done later : List Turn) → Passed w n front done
    → AreTurns w (n + length front) more later → AreTurns w n (front ++ more) (done ++ later)
passed_then w n [] more done later p h =
    let here : AreTurns w n more later = subst (λ (k : ℕ). AreTurns w k more later) {x = n + 0} {y = n} (omega arith) h in
    subst (λ (y : List Turn). AreTurns w n more (y ++ later)) (sym p) here
passed_then w n (line ∷ front) more [] later p h = absurd p
passed_then w n (line ∷ front) more (turn ∷ done) later p h = (
  p.0,
  if_going (goes_on w turn) (done ++ later) p.1 (passed_then w (n + 1) front more done later p.2
      (subst (λ (k : ℕ). AreTurns w k more later) {x = n + suc (length front)} {y = n + 1 + length front} (omega arith) h)),
)

pub passed_more : (w : LineWork) (n : ℕ) (front : List (List ℕ)) (done : List Turn) (line : List ℕ) (turn : Turn) → Passed w n front done
    → Comes w (n + length front + 1) line turn → goes_on w turn ≡ true
    → Passed w n (front ++ line ∷ []) (done ++ turn ∷ [])
passed_more w n [] done line turn p comes goes =
    let here : Comes w (n + 1) line turn = subst (λ (k : ℕ). Comes w k line turn) {x = n + 0 + 1} {y = n + 1} (omega arith) comes in
    subst (λ (y : List Turn). Passed w n (line ∷ []) (y ++ turn ∷ [])) (sym p) (here, goes, refl)
passed_more w n (one ∷ front) [] line turn p comes goes = absurd p
passed_more w n (one ∷ front) (first ∷ done) line turn p comes goes = (
  p.0,
  p.1,
  passed_more w (n + 1) front done line turn p.2 (subst (λ (k : ℕ). Comes w k line turn) {x = n + suc (length front) + 1}
      {y = n + 1 + length front + 1} (omega arith) comes) goes,
)

-- ---- a line above the limit at which the loop stops

not_both : (b c : Bool) → c ≡ true → (b && not c) ≡ false
not_both true c e = rw e refl
not_both false c e = refl

pub none_long : (w : LineWork) (turns : List Turn) → AllGoOn w turns → ends_long w turns ≡ false
none_long w [] all = refl
none_long w (turn ∷ []) all = not_both (is_long turn) (goes_on w turn) all.0
none_long w (turn ∷ next ∷ turns) all = none_long w (next ∷ turns) all.1

pub long_at_last : (w : LineWork) (done : List Turn) (turn : Turn)
    → ends_long w (done ++ turn ∷ []) ≡ (is_long turn && not (goes_on w turn))
long_at_last w [] turn = refl
long_at_last w (one ∷ []) turn = refl
long_at_last w (one ∷ next ∷ done) turn = long_at_last w (next ∷ done) turn

no_long_fault : (whole : Bool) (size : ℕ) (status : Status) (o : Outcome) → fault_from whole size status o ≡ Some TooLong → ⊥
no_long_fault whole size Done o e = by (whole && nat_lt o.used size) e
  where
    by : (b : Bool) → cond b (Some (LeftOver o.used)) None ≡ Some TooLong → ⊥
    by true e = cc
    by false e = cc
no_long_fault whole size InputFailure o e = cc
no_long_fault whole size MatchingFailure o e = cc
no_long_fault whole size OutOfRange o e = cc
no_long_fault whole size statuses.TooLong o e = cc
no_long_fault whole size NoMemory o e = cc

judged_short : (matching : Bool) (made : Work) (r : RunReport) (line : List ℕ) (fault : Option LineFault) → (fault ≡ Some TooLong → ⊥)
    → is_long (judged matching made r line fault) ≡ false
judged_short matching made r line None other = by (made.fits r)
  where
    by : (b : Bool) → is_long (written_by b (made.text r) line) ≡ false
    by true = refl
    by false = refl
judged_short matching made r line (Some fault) other = by (matching && is_other fault) fault other
  where
    by : (b : Bool) (fault : LineFault) → (Some fault ≡ Some TooLong → ⊥) → is_long (cond b None (Some (Err (line, fault)))) ≡ false
    by true fault other = refl
    by false (Failed o) other = refl
    by false (LeftOver at) other = refl
    by false TooLong other = absurd (other refl)
    by false Unfit other = refl

-- a line within the limit isn't reported as one above it
pub short_turn : (w : LineWork) (number : ℕ) (line : List ℕ) (turn : Turn) → Comes w number line turn → length line ≤ w.options.limit
    → is_long turn ≡ false
short_turn w number line turn (inl (skipped, is)) short = ap is_long is
short_turn w number line turn (inr (after, inl (long, is))) short = absurd (omega (arith, long, short))
short_turn w number line turn (inr (after, inr (few, inl (ignored, is)))) short = ap is_long is
short_turn w number line turn (inr (after, inr (few, inr (read, (ds, r, picks, is))))) short =
    ap is_long is ∙ judged_short w.options.matching (w.makes (number_of picks) ds) r line (fault_of w.options line r)
    (no_long_fault w.options.whole (length line) r.status (outcome_of r))

-- one that is above it is, unless it is passed over
pub long_turn : (w : LineWork) (number : ℕ) (line : List ℕ) (turn : Turn) (miss : Miss) → Comes w number line turn
    → w.options.limit < length line → turn ≡ Some (Err miss) → is_long turn ≡ true
long_turn w number line turn miss (inl (skipped, is)) long some = absurd (let other = sym is ∙ some in cc)
long_turn w number line turn miss (inr (after, inl (above, is))) long some = ap is_long is
long_turn w number line turn miss (inr (after, inr (few, more))) long some = absurd (omega (arith, few, long))

-- so is a line that begins so
pub comes_whole : (w : LineWork) (number : ℕ) (part more : List ℕ) (turn : Turn) → w.options.limit < length part
    → Comes w number part turn → Comes w number (part ++ more) turn
comes_whole w number part more turn long (inl skipped) = inl skipped
comes_whole w number part more turn long (inr (after, inl (above, is))) = inr (
  after,
  inl (
    omega (arith, above, length-append part more),
    is ∙ ap (λ (y : List ℕ). Some (Err (y, TooLong))) (sym (take-append-le w.options.limit part more (omega (arith, above)))),
  ),
)
comes_whole w number part more turn long (inr (after, inr (few, other))) = absurd (omega (arith, few, long))

-- ---- sums

pub tellings_append : (w : LineWork) (n : ℕ) (front later : List Turn)
    → tellings w n (front ++ later) ≡ tellings w n front ++ tellings w (n + length front) later
tellings_append w n [] later = ap (λ (k : ℕ). tellings w k later) {x = n} {y = n + 0} (omega arith)
tellings_append w n (turn ∷ front) later =
    ap (λ (y : List ℕ). telling_of w (n + 1) turn ++ y) (tellings_append w (n + 1) front later
    ∙ ap (λ (k : ℕ). tellings w (n + 1) front ++ tellings w k later) {x = n + 1 + length front} {y = n + suc (length front)}
    (omega arith))
    ∙ sym (append_assoc (telling_of w (n + 1) turn) (tellings w (n + 1) front) (tellings w (n + suc (length front)) later))

pub texts_more : (done : List Turn) (turn : Turn) → texts (done ++ turn ∷ []) ≡ texts done ++ text_of turn
texts_more done turn = flat_map-append text_of done (turn ∷ []) ∙ ap (λ (y : List ℕ). texts done ++ y) (append-nil (text_of turn))

pub count_append : (p : Turn → Bool) (xs ys : List Turn) → count_by p (xs ++ ys) ≡ count_by p xs + count_by p ys
count_append p xs ys = sum_by-append _ xs ys

pub count_more : (p : Turn → Bool) (done : List Turn) (turn : Turn) (k n : ℕ) → k ≡ n + cond (p turn) 1 0 → n ≡ count_by p done
    → k ≡ count_by p (done ++ turn ∷ [])
count_more p done turn k n more is = let h : count_by p (done ++ turn ∷ []) ≡ count_by p done + (0 + cond (p turn) 1 0) =
    count_append p done (turn ∷ []) in omega (arith, h, more, is)

-- ---- something comes of each line

le_or_lt : (n k : ℕ) → (n ≤ k) ⊎ (k < n)
le_or_lt zero k = inl (omega arith)
le_or_lt (suc n) zero = inr (omega arith)
le_or_lt (suc n) (suc k) = elim (le_or_lt n k) [ inl h ↦ inl (omega arith) | inr h ↦ inr (omega arith) ]

none_or_some : (fault : Option LineFault) → (fault ≡ None) ⊎ IsSome fault
none_or_some None = inl refl
none_or_some (Some fault) = inr refl

module _ (one : EachHasOneReport) (w : LineWork) where
  -- among the formats after those that the line doesn't match, one counts
  picked : (line : List ℕ) (before : List (List Directive)) (ds : List Directive) (rest : List (List Directive))
      → w.formats ≡ before ++ ds ∷ rest → AllByRecursion AreProper (ds ∷ rest)
      → AllByRecursion (Misses w.options line) before → (ds' : List Directive) × (r : RunReport) × Picks w.options w.formats line ds' r
  picked line before ds [] among proper missed =
      let all = one ds proper.0 w.options.limit line End in
      (ds, all.report, record { before = before; after = []; among = among; missed = missed; ran = all.is; counts = inr refl })
  picked line before ds (next ∷ rest) among proper missed =
      let all = one ds proper.0 w.options.limit line End in
      elim (none_or_some (fault_of w.options line all.report)) [
        | inl none ↦ (
          ds,
          all.report,
          record {
            before = before;
            after = next ∷ rest;
            among = among;
            missed = missed;
            ran = all.is;
            counts =
                inl none;
          },
        )
        | inr some ↦ picked line (before ++ ds ∷ []) next rest (among ∙ sym (append_assoc before (ds ∷ []) (next ∷ rest))) proper.1
            (all_append (Misses w.options line) before (ds ∷ []) missed ((all.report, all.is, some), tt))
      ]

  -- a line is ignored, or it is not
  ignored_or_read : (line : List ℕ) (formats : List (List Directive)) → AllByRecursion AreProper formats
      → ((ds : List Directive) × Contains formats ds × Matches (used_whole w.options) line ds)
      ⊎ AllByRecursion (Misses (used_whole w.options) line) formats
  ignored_or_read line [] proper = inr tt
  ignored_or_read line (ds ∷ formats) proper =
      let all = one ds proper.0 w.options.limit line End in
      elim (none_or_some (fault_of (used_whole w.options) line all.report)) [
        | inl none ↦ inl (ds, contains_first ds formats, (all.report, all.is, none))
        | inr some ↦ elim (ignored_or_read line formats proper.1) [
          | inl ignored ↦ inl (ignored.0, contains_later ds ignored.0 formats ignored.1, ignored.2)
          | inr read ↦ inr ((all.report, all.is, some), read)
        ]
      ]

  module _ (scanned : AreScanned w) where
    has_pick : (line : List ℕ) → (ds : List Directive) × (r : RunReport) × Picks w.options w.formats line ds r
    has_pick line = by w.formats refl
      where
        by : (formats : List (List Directive)) → w.formats ≡ formats → (ds : List Directive) × (r : RunReport)
            × Picks w.options w.formats line ds r
        by [] e = absurd (omega (arith, scanned.some, ap length e))
        by (ds ∷ rest) e = picked line [] ds rest e (subst (AllByRecursion AreProper) e scanned.proper) tt

    is_judged : (line : List ℕ) → (turn : Turn) × IsJudged w line turn
    is_judged line = elim (le_or_lt (length line) w.options.limit) [
      | inl short ↦ elim (ignored_or_read line w.ignored scanned.ignored) [
        | inl ignored ↦ (None, inr (short, inl (ignored, refl)))
        | inr read ↦ (let p = has_pick line in (turn_by w (number_of p.2) p.0 p.1 line, inr (short, inr (read, (p.0, p.1, p.2, refl)))))
      ]
      | inr long ↦ (Some (Err (take w.options.limit line, TooLong)), inl (long, refl))
    ]

    comes : (number : ℕ) (line : List ℕ) → (turn : Turn) × Comes w number line turn
    comes number line = elim (le_or_lt number w.options.skip) [
      | inl skipped ↦ (None, inl (skipped, refl))
      | inr counts ↦ (let v = is_judged line in (v.0, inr (counts, v.1)))
    ]

    -- what comes of the lines, from the first on
    pub turns_behind : (n : ℕ) (lines : List (List ℕ)) → (turns : List Turn) × AreTurns w n lines turns
    turns_behind n [] = ([], refl)
    turns_behind n (line ∷ lines) =
        let first = comes (n + 1) line in
        by (goes_on w first.0) first refl (turns_behind (n + 1) lines)
      where
        by : (b : Bool) → (first : (turn : Turn) × Comes w (n + 1) line turn) → goes_on w first.0 ≡ b
            → ((turns : List Turn) × AreTurns w (n + 1) lines turns) → (turns : List Turn) × AreTurns w n (line ∷ lines) turns
        by true first e rest = (first.0 ∷ rest.0, (first.1, if_going (goes_on w first.0) rest.0 e rest.1))
        by false first e rest = (first.0 ∷ [], (first.1, if_stopped (goes_on w first.0) (AreTurns w (n + 1) lines []) [] e refl))
