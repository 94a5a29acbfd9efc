-- A scan of an input that begins with a printed text reads it back, and leaves what follows.
use Rattle.std.proofs.Common.{◌≡◌, ℕ, zero, suc, ◌-◌, ◌≤◌, ◌<◌, ◌⊎◌, inl, inr, Bool, true, false, List, [], ◌∷◌, ◌++◌, length, take, drop}
use Rattle.std.proofs.Common.{Option, Some, None, refl, sym, ap, ap₂, subst, ◌∙◌, arith, append_assoc, true≢false}
use Rattle.std.specs.List.{concat}
use Rattle.std.proofs.lemmas.List.{drop_at, append_cancel_right}
use Rattle.std.proofs.lemmas.List.Folds.{concat-append}
use Rattle.sf_base.specs.Data.{Datum}
use Rattle.sf_base.specs.stores.Kept.{texts_in}
use Rattle.sf_format.specs.declared.directive.Directive.{Directive}
use Rattle.sf_format.specs.declared.unit.Unit.{Unit as PrintUnit}
use Rattle.sf_format.specs.Units.{AreAccepted}
use Rattle.sf_format.specs.Proper.{IsAccepted}
use Rattle.sf_format.specs.Widths.{width_sum}
use Rattle.sf_print.specs.Printed.{printed}
use Rattle.sf_run.specs.outcome.Ending.{Ending}
use Rattle.sf_run.specs.outcome.Ending.TheVariants.{End, Fault}
use Rattle.sf_run.specs.Runs.{RunReport}
use Rattle.sf_run.specs.Limits.{RunWithin, RunTold}
use Rattle.sf_run.specs.Views.{StoredReport}
use Rattle.sf_run.specs.Stopping.{is_memory_status}
use Rattle.sf_read.specs.source.Ahead.{Ahead, input_of}
use Rattle.sf_read.specs.Scan.{Scan, is_fault}
use Rattle.sf_pair_read.specs.Below.{PairLaws}
use Rattle.sf_pair.specs.Groups.{IsAligned}
use Rattle.sf_pair.specs.Fits.{Fit}
use Rattle.sf_pair.specs.Laws.{read_back}
use Rattle.std.specs.Prelude.{IfOk, IsSome, is_some, SomeIff, Result, Ok, Err}
use Rattle.sf_run.specs.Rows.{AreRowOf}
use Rattle.sf_run.specs.Runs.{IsOpen}
use Rattle.sf_read.specs.Reads.{WaitedFor}
use Rattle.sf_read.proofs.Blocks.{input_is}
use Rattle.sf_pair.specs.Formats.{IsChecked}
use Rattle.sf_pair_read.specs.Reading.{NotReadAfter, ReadsBackWhole}

take_past : (xs ys : List ℕ) (n : ℕ) → length xs ≤ n → take n (xs ++ ys) ≡ xs ++ take (n - length xs) ys
take_past [] ys n h = ap (λ (k : ℕ). take k ys) {x = n} {y = n - 0} (omega arith)
take_past (x ∷ xs) ys zero h = absurd (omega arith)
take_past (x ∷ xs) ys (suc n) h = ap (λ (t : List ℕ). x ∷ t) (take_past xs ys n (omega arith))
    ∙ ap (λ (k : ℕ). x ∷ (xs ++ take k ys)) {x = n - length xs} {y = suc n - length (x ∷ xs)} (omega arith)

take_at : (xs ys : List ℕ) → take (length xs) (xs ++ ys) ≡ xs
take_at [] ys = refl
take_at (x ∷ xs) ys = ap (λ (t : List ℕ). x ∷ t) (take_at xs ys)

-- a front that is as long as a text is that text and more
longer_front : (text held x block : List ℕ) → text ++ held ≡ x ++ block → length text ≤ length x → x ≡ text ++ drop (length text) x
longer_front [] held x block e h = refl
longer_front (b ∷ text) held [] block e h = absurd (omega arith)
longer_front (b ∷ text) held (a ∷ x) block e h =
    let first : a ≡ b = (let same = e in cc) in
    let rest : text ++ held ≡ x ++ block = (let same = e in cc) in
    ap₂ (λ (k : ℕ) (t : List ℕ). k ∷ t) first (longer_front text held x block rest (omega arith))

le_or_lt : (n k : ℕ) → (n ≤ k) ⊎ (k < n)
le_or_lt zero k = inl (omega arith)
le_or_lt (suc n) zero = inr (omega arith)
le_or_lt (suc n) (suc k) = elim (le_or_lt n k) [ inl h ↦ inl (omega arith) | inr h ↦ inr (omega arith) ]

-- what is read back whole leaves no run that goes on
not_open : PairLaws → (us : List PrintUnit) (ds : List Directive) → AreAccepted us → IsAccepted ds → IsAligned us ds
    → (values : List Datum) → Fit us ds values → (z : List ℕ) → IsOpen ds (printed us values ++ z) → ⊥
not_open laws us ds accepted proper aligned values fit z goes =
    let (ran, steps, met, meets, is) = laws.trip us ds accepted proper aligned values fit z End in
    by met meets (ap (λ (r : RunReport). r.met) is)
  where
    by : (met : Option Ending) → SomeIff met (IsOpen ds (printed us values ++ z)) End → None ≡ met → ⊥
    by None closed e = closed goes
    by (Some ending) meets e = absurd cc

module _ (laws : PairLaws) {S : Type 0} (to_come : S → Option (List ℕ)) (reads : S → ℕ) (N : ℕ) (us : List PrintUnit)
    (ds : List Directive) (accepted : AreAccepted us) (proper : IsAccepted ds) (aligned : IsAligned us ds) (values : List Datum)
    (fit : Fit us ds values)
    (m : ℕ) (fits : length (printed us values) ≤ m) (z : List ℕ) (old new : Ahead S) (report : RunReport)
    (scan : Scan to_come ds m (printed us values ++ z) old new report) (stored : is_memory_status report.status ≡ false) where
  -- the source didn't fail
  whole : is_fault report.met ≡ false → report ≡ read_back us ds values
  whole e = elim (scan.whole e) [
    | inl w ↦ laws.within us ds accepted proper aligned values fit m fits z End report w
    | inr w ↦ absurd (true≢false (sym (ap (λ (r : RunReport). is_memory_status r.status) w.2.3) ∙ stored))
  ]

  -- it failed, but not within the text: it can't have been read then
  cut : is_fault report.met ≡ true → length (printed us values) ≤ report.used → report ≡ read_back us ds values
  cut e behind =
      let run = subst (λ (x : List ℕ). RunWithin ds m x Fault report) (take_past (printed us values) z report.used behind) (scan.cut e) in
      laws.within us ds accepted proper aligned values fit m fits (take (report.used - length (printed us values)) z) Fault report run

  pub report_is : (is_fault report.met ≡ false) ⊎ (length (printed us values) ≤ report.used) → report ≡ read_back us ds values
  report_is (inl e) = whole e
  report_is (inr behind) = by (is_fault report.met) refl
    where
      by : (t : Bool) → is_fault report.met ≡ t → report ≡ read_back us ds values
      by true e = cut e behind
      by false e = whole e

  -- a front that the run goes on from is shorter than the text
  pub asked : (x block : List ℕ) → printed us values ++ new.held ≡ x ++ block → IsOpen ds x → length x < length (printed us values)
  asked x block e goes = either (length (printed us values)) (length x) (λ h. h) (λ h.
      let front : x ≡ printed us values ++ drop (length (printed us values)) x = longer_front (printed us values) new.held x block e h in
      absurd (not_open laws us ds accepted proper aligned values fit (drop (length (printed us values)) x) (subst (IsOpen ds) front goes)))
    where
      either : {P : Type 0} (n k : ℕ) → (k < n → P) → (n ≤ k → P) → P
      either n k f g = elim (le_or_lt n k) [ inl h ↦ g h | inr h ↦ f h ]

  pub rest_is : (is_fault report.met ≡ false) ⊎ (length (printed us values) ≤ report.used) → input_of to_come new ≡ Some z
  rest_is h =
      let used : report.used ≡ length (printed us values) = ap (λ (r : RunReport). r.used) (report_is h) in
      scan.rest ∙ ap Some (ap (λ (k : ℕ). drop k (printed us values ++ z)) used
      ∙ drop_at (printed us values) z (length (printed us values)) refl)

  pub not_after : (h : (is_fault report.met ≡ false) ⊎ (length (printed us values) ≤ report.used))
      → input_of to_come old ≡ Some (printed us values ++ z)
      → WaitedFor to_come reads N ds m old new report.used → NotReadAfter to_come reads N (printed us values) old new
  not_after h input (bytes, used, r) =
      let text : List ℕ = printed us values in
      let whole : text ++ z ≡ bytes ++ z = input_is (to_come old.source) (to_come new.source) old.held new.held bytes (concat r.blocks)
      (text ++ z) z input (rest_is h) r.gave r.taken in
      let is : text ≡ bytes = append_cancel_right text bytes z whole in
      let gave : text ++ new.held ≡ old.held ++ concat r.blocks = ap (λ (t : List ℕ). t ++ new.held) is ∙ r.gave in
      record {
        blocks = r.blocks;
        gave = gave;
        taken = r.taken;
        count = r.count;
        unread = r.unread;
        at_end = r.at_end;
        each = λ front block back e.
            let one = r.each front block back e in
            let parts : text ++ new.held ≡ (old.held ++ concat front) ++ concat (block ∷ back) =
            gave ∙ ap (λ (bs : List (List ℕ)). old.held ++ concat bs) e
            ∙ ap (λ (t : List ℕ). old.held ++ t) (concat-append front (block ∷ back))
            ∙ sym (append_assoc old.held (concat front) (concat (block ∷ back))) in
            record {
              few = one.few;
              waited = asked (old.held ++ concat front) (concat (block ∷ back)) parts one.waited.0;
              all_used = omega (arith, one.all_used, ap length is);
              last = one.last;
            };
      }

pub all_ok : {A E : Type 0} {P Q R T : A → Type 0} (r : Result A E) → IfOk r P → IfOk r Q → IfOk r R → ((a : A) → P a → Q a → R a → T a)
    → IfOk r T
all_ok (Ok a) p q r f = f a p q r
all_ok (Err e) p q r f = tt

pub some_none : (o : Option ℕ) → IsSome o → o ≡ None → ⊥
some_none o some e = let wrong : is_some {T = ℕ} None ≡ true = ap is_some (sym e) ∙ some in absurd cc

pub reads_whole : PairLaws → {S : Type 0} (to_come : S → Option (List ℕ)) (reads : S → ℕ) (N : ℕ) (us : List PrintUnit)
    (ds : List Directive) → IsChecked us ds → (values : List Datum) → Fit us ds values
    → (m : ℕ) → length (printed us values) ≤ m → (z : List ℕ) (old new : Ahead S) (report : RunReport)
    → Scan to_come ds m (printed us values ++ z) old new report → is_memory_status report.status ≡ false
    → input_of to_come old ≡ Some (printed us values ++ z) → WaitedFor to_come reads N ds m old new report.used
    → ReadsBackWhole to_come reads N us ds values z old new report
reads_whole laws to_come reads N us ds checked values fit m fits z old new report scan stored input waited = λ h.
    let aligned : IsAligned us ds = (laws.accepted us ds).0 checked.found in
    let is : report ≡ read_back us ds values = report_is laws to_come reads N us ds checked.printed checked.scanned aligned values fit m
    fits z old new report scan stored h in
    record {
      report_is = is;
      row = subst (AreRowOf (length values) values) (sym (ap (λ (r : RunReport). r.values) is))
          (laws.slots us ds checked.printed checked.scanned aligned values fit).row;
      left = rest_is laws to_come reads N us ds checked.printed checked.scanned aligned values fit m fits z old new report scan stored h;
      read = not_after laws to_come reads N us ds checked.printed checked.scanned aligned values fit m fits z old new report scan stored h
          input waited;
    }

-- the format of a pair has a width sum
pub bounded_by : PairLaws → (us : List PrintUnit) (ds : List Directive) → IsChecked us ds → IsSome (width_sum ds)
bounded_by laws us ds checked = laws.bounded us ds checked.scanned ((laws.accepted us ds).0 checked.found)

-- what a report holds is bounded, as the contract of a read says it
pub told_held : PairLaws → {E : Type 0} (r : Result StoredReport E) (ds : List Directive) (m : ℕ)
    → IfOk r (λ s. (x : List ℕ) × (ending : Ending) × RunTold ds m x ending s.report)
    → IfOk r (λ s. (n : ℕ) → width_sum ds ≡ Some n → length (texts_in s.report.values) ≤ n)
told_held laws (Ok s) ds m told = λ n e. laws.held ds m told.0 told.1 s.report told.2 n e
told_held laws (Err f) ds m told = tt
