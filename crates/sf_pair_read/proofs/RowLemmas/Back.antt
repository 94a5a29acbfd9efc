-- A scan of a row from a text that a pair has written.
use Rattle.std.proofs.Common.{◌≡◌, ℕ, ◌+◌, ◌≤◌, ◌<◌, ◌⊎◌, inl, inr, Bool, true, false, cond, List, [], ◌∷◌, ◌++◌, length, map, drop}
use Rattle.std.proofs.Common.{Option, Some, Result, Ok, Err, refl, sym, ap, subst, ◌∙◌, arith, append-nil, append_assoc, length-append}
use Rattle.std.proofs.Common.{true≢false}
use Rattle.std.specs.List.{AllByRecursion}
use Rattle.sf_base.specs.Data.{Datum}
use Rattle.sf_base.specs.declared.values.Kind.{Kind}
use Rattle.sf_format.specs.declared.directive.Directive.{Directive}
use Rattle.sf_format.specs.declared.unit.Unit.{Unit as PrintUnit}
use Rattle.sf_format.specs.Proper.{destinations_of}
use Rattle.sf_print.specs.Printed.{printed}
use Rattle.sf_report.specs.Laws.{EachHasOneReport}
use Rattle.sf_run.specs.outcome.Ending.{Ending}
use Rattle.sf_run.specs.outcome.Ending.TheVariants.{End}
use Rattle.sf_run.specs.outcome.Outcome.{Outcome}
use Rattle.sf_run.specs.outcome.Status.{Status}
use Rattle.sf_run.specs.outcome.Status.TheVariants.{Done, InputFailure}
use Rattle.sf_run.specs.Runs.{RunReport}
use Rattle.sf_run.specs.Limits.{RunWithin}
use Rattle.sf_run.specs.Rows.{AreRowOf, given_to}
use Rattle.sf_run.specs.Stopping.{is_memory_status}
use Rattle.sf_read.specs.declared.row.ScanRowFault.{ScanRowFault}
use Rattle.sf_read.specs.declared.row.ScanRowFault.TheVariants.{ShapeDiffers, Start, Failed, LeftOver, NoMemory}
use Rattle.sf_read.specs.source.Ahead.{Ahead, input_of}
use Rattle.sf_read.specs.source.Counts.{counted_on}
use Rattle.sf_read.specs.field.Rows.{present}
use Rattle.sf_read.specs.RowScans.{Answers, HasShape, RowScan, difference_in, difference_of, is_run}
use Rattle.sf_read.specs.Scan.{is_fault}
use Rattle.sf_pair.specs.Fits.{Fit}
use Rattle.sf_pair.specs.Formats.{IsChecked}
use Rattle.sf_pair.specs.Groups.{IsAligned}
use Rattle.sf_pair.specs.Joined.{joined}
use Rattle.sf_pair.specs.Laws.{AlignedEndsOnNothing, read_back}
use Rattle.sf_pair_read.specs.Below.{PairLaws}
use Rattle.sf_pair_read.proofs.Scans.{bounded_by, reads_whole}
use Rattle.sf_run.specs.declared.feeding.StartFault.{StartFault}
use Rattle.sf_run.specs.declared.feeding.StartFault.TheVariants as start
use Rattle.std.specs.Prelude.{IfOk, IsErrOf, IsSome}
use Rattle.sf_pair_read.specs.rows.Reading.{AreReadable, IsMemory, ends_at, is_end}

-- no read has failed
none_failed : (b : Bool) (n : ℕ) → cond b (counted_on n) n ≡ 0 → b ≡ false
none_failed true n e = absurd (counted_some n e)
  where
    counted_some : (n : ℕ) → counted_on n ≡ 0 → ⊥
    counted_some n e = grind arith
none_failed false n e = refl

not_before : (b : Bool) (n : ℕ) → cond b (counted_on n) n ≡ 0 → n ≡ 0
not_before true n e = absurd (true≢false (none_failed true n e))
not_before false n e = e

-- the values of a row that has one in each slot
all_present : (values : List Datum) → present (map Some values) ≡ values
all_present [] = refl
all_present (v ∷ values) = ap (λ (vs : List Datum). v ∷ vs) (all_present values)

-- the row lists the values that it has
abbrev Lists : {T : Type 0} → (T → List (Option Datum)) → (T → List Datum) → Result T ScanRowFault → Type 0
Lists given_by listed result = IfOk result (λ row. listed row ≡ present (given_by row))

-- what the scan of a row answers that was written
abbrev pub GivesRow : {S T : Type 0} → (S → Option (List ℕ)) → (T → List Datum) → Ahead S → List Datum → List ℕ → Result T ScanRowFault
    → Type 0
GivesRow to_come listed new values z (Ok row) = (listed row ≡ values) × (input_of to_come new ≡ Some z)
GivesRow to_come listed new values z (Err NoMemory) = Unit {0}
GivesRow to_come listed new values z (Err (ShapeDiffers by)) = ⊥
GivesRow to_come listed new values z (Err (LeftOver at)) = ⊥
GivesRow to_come listed new values z (Err (Start fault)) = ⊥
GivesRow to_come listed new values z (Err (Failed outcome)) = ⊥

-- what it answers where nothing is left
abbrev pub EndsRows : {S T : Type 0} → (S → Option (List ℕ)) → Ahead S → Result T ScanRowFault → Type 0
EndsRows to_come new (Ok row) = ⊥
EndsRows to_come new (Err NoMemory) = ⊥
EndsRows to_come new (Err (ShapeDiffers by)) = ⊥
EndsRows to_come new (Err (LeftOver at)) = ⊥
EndsRows to_come new (Err (Start fault)) = ⊥
EndsRows to_come new (Err (Failed outcome)) = (outcome.status ≡ InputFailure) × (outcome.converted ≡ 0) × (outcome.met ≡ Some End)
    × (input_of to_come new ≡ Some [])

gives_by : {S T : Type 0} (to_come : S → Option (List ℕ)) (kinds : List Kind) (given_by : T → List (Option Datum))
    (listed : T → List Datum) (new : Ahead S)
    (us : List PrintUnit) (ds : List Directive) (result : Result T ScanRowFault) (values : List Datum) (z : List ℕ) (report : RunReport)
    → Answers kinds given_by report result → Lists given_by listed result → report ≡ read_back us ds values
    → AreRowOf (length values) values report.values
    → input_of to_come new ≡ Some z → length kinds ≡ length values → GivesRow to_come listed new values z result
gives_by to_come kinds given_by listed new us ds (Ok row) values z report answers lists is row_is left same =
    let own : given_by row ≡ map Some values = answers.1 ∙ ap (λ k. given_to k report.values) same ∙ sym row_is in
    (lists ∙ ap present own ∙ all_present values, left)
gives_by to_come kinds given_by listed new us ds (Err NoMemory) values z report answers lists is row_is left same = tt
gives_by to_come kinds given_by listed new us ds (Err (ShapeDiffers by)) values z report answers lists is row_is left same = answers
gives_by to_come kinds given_by listed new us ds (Err (LeftOver at)) values z report answers lists is row_is left same = answers
gives_by to_come kinds given_by listed new us ds (Err (Start fault)) values z report answers lists is row_is left same = answers
gives_by to_come kinds given_by listed new us ds (Err (Failed outcome)) values z report answers lists is row_is left same =
    answers.0 (ap (λ (r : RunReport). r.status) is)

ends_by : {S T : Type 0} (to_come : S → Option (List ℕ)) (kinds : List Kind) (given_by : T → List (Option Datum)) (new : Ahead S)
    (result : Result T ScanRowFault) (report : RunReport) → Answers kinds given_by report result → report.status ≡ InputFailure
    → report.converted ≡ 0 → report.met ≡ Some End → input_of to_come new ≡ Some [] → EndsRows to_come new result
ends_by to_come kinds given_by new (Ok row) report answers status converted met left =
    let never : Done ≡ InputFailure = sym answers.0 ∙ status in absurd cc
ends_by to_come kinds given_by new (Err NoMemory) report answers status converted met left =
    let never : Done ≡ InputFailure = sym answers ∙ status in absurd cc
ends_by to_come kinds given_by new (Err (ShapeDiffers by)) report answers status converted met left = answers
ends_by to_come kinds given_by new (Err (LeftOver at)) report answers status converted met left = answers
ends_by to_come kinds given_by new (Err (Start fault)) report answers status converted met left = answers
ends_by to_come kinds given_by new (Err (Failed outcome)) report answers status converted met left = (
  ap (λ (r : RunReport). r.status) answers.1 ∙ status,
  ap (λ (r : RunReport). r.converted) answers.1 ∙ converted,
  ap (λ (r : RunReport). r.met) answers.1 ∙ met,
  left,
)

-- ---- rows in turn

-- the rows of an input that were read so far, and those that are left
abbrev pub Going : {S T : Type 0} → (S → Option (List ℕ)) → (S → ℕ) → List Kind → (ℕ → Bool) → (T → List Datum) → List PrintUnit → List
    Directive → ℕ → ℕ
    → Ahead S → Ahead S → List T → Type 0
Going to_come failures kinds optional listed us ds m most old now done =
    (rows : List (List Datum)) (z : List ℕ) → AreReadable us ds m most rows z → HasShape kinds optional ds
    → input_of to_come old ≡ Some (joined us rows ++ z) → failures now.source ≡ 0
    → (left : List (List Datum)) × (rows ≡ map listed done ++ left) × (input_of to_come now ≡ Some (joined us left ++ z))

all_after : (P : List Datum → Type 0) (xs ys : List (List Datum)) → AllByRecursion P (xs ++ ys) → AllByRecursion P ys
all_after P [] ys h = h
all_after P (x ∷ xs) ys h = all_after P xs ys h.1

map_length : {T : Type 0} (f : T → List Datum) (xs : List T) → length (map f xs) ≡ length xs
map_length f [] = refl
map_length f (x ∷ xs) = let rest = map_length f xs in omega (arith, rest)

map_more : {T : Type 0} (f : T → List Datum) (xs : List T) (x : T) (left : List (List Datum))
    → map f xs ++ f x ∷ left ≡ map f (xs ++ x ∷ []) ++ left
map_more f [] x left = refl
map_more f (y ∷ xs) x left = ap (λ (rows : List (List Datum)). f y ∷ rows) (map_more f xs x left)

-- where all rows were read there is no more
pub all_read : {T : Type 0} (listed : T → List Datum) (us : List PrintUnit) (ds : List Directive) (m most : ℕ) (rows : List (List Datum))
    (z : List ℕ) (done : List T) (left : List (List Datum)) → AreReadable us ds m most rows z → rows ≡ map listed done ++ left
    → most ≤ length done → left ≡ []
all_read listed us ds m most rows z done [] readable is many = refl
all_read listed us ds m most rows z done (values ∷ left) readable is many =
    let size : length rows ≡ length done + length (values ∷ left) =
    ap length is ∙ length-append (map listed done) (values ∷ left) ∙ ap (λ n. n + length (values ∷ left)) (map_length listed done) in
    absurd (elim readable.count [ inl all ↦ omega (arith, size, all, many) | inr less ↦ omega (arith, size, less.0, many) ])

-- where fewer than are asked for were read and none is left, nothing follows
nothing_follows : {T : Type 0} (listed : T → List Datum) (us : List PrintUnit) (ds : List Directive) (m most : ℕ) (rows : List (List Datum))
    (z : List ℕ) (done : List T) → AreReadable us ds m most rows z → rows ≡ map listed done ++ [] → length done < most → z ≡ []
nothing_follows listed us ds m most rows z done readable is few =
    let size : length rows ≡ length done =
    ap length (is ∙ append-nil (map listed done)) ∙ map_length listed done in
    elim readable.count [ inl all ↦ absurd (omega (arith, size, all, few)) | inr less ↦ less.1 ]

module _ (laws : PairLaws) (nothing : AlignedEndsOnNothing) (one : EachHasOneReport) {S T : Type 0} (to_come : S → Option (List ℕ))
    (reads failures : S → ℕ) (N : ℕ) (us : List PrintUnit)
    (ds : List Directive) (checked : IsChecked us ds) (kinds : List Kind) (optional : ℕ → Bool)
    (given_by : T → List (Option Datum)) (listed : T → List Datum) (m most : ℕ) (old now new : Ahead S)
    (done : List T) (going : Going to_come failures kinds optional listed us ds m most old now done) (few : length done < most)
    (result : Result T ScanRowFault) (run : RowScan to_come reads failures N kinds given_by ds m now new result)
    (lists : Lists given_by listed result) where
  aligned : IsAligned us ds
  aligned = (laws.accepted us ds).0 checked.found

  fine : failures new.source ≡ 0 → is_fault run.report.met ≡ false
  fine sound = none_failed (is_fault run.report.met) (failures now.source) (sym run.failed ∙ sound)

  gives_row : HasShape kinds optional ds → failures new.source ≡ 0 → (values : List Datum) → Fit us ds values → length (printed us values) ≤
      m
      → (z : List ℕ) → input_of to_come now ≡ Some (printed us values ++ z) → GivesRow to_come listed new values z result
  gives_row shape sound values fit short z input =
      let back = reads_whole laws to_come reads N us ds checked values fit m short z now new run.report
      (run.scan (printed us values ++ z) input) (run.bounded (bounded_by laws us ds checked)) input run.waited (inl (fine sound)) in
      let count : length values ≡ length (destinations_of ds) =
      (laws.slots us ds checked.printed checked.scanned aligned values fit).count in
      let same : length kinds ≡ length values = shape.count ∙ sym count in
      gives_by to_come kinds given_by listed new us ds result values z run.report run.answers lists back.report_is back.row back.left same

  ends_rows : failures new.source ≡ 0 → input_of to_come now ≡ Some [] → EndsRows to_come new result
  ends_rows sound input =
      let scan = run.scan [] input in
      let end = nothing us ds checked.scanned aligned in
      let low : end.report.used ≤ m = omega (arith, end.used) in
      let own : RunWithin ds m [] End run.report = elim (scan.whole (fine sound)) [
        | inl w ↦ w
        | inr w ↦ absurd (true≢false (sym (ap (λ (r : RunReport). is_memory_status r.status) w.2.3)
            ∙ run.bounded (bounded_by laws us ds checked)))
      ] in
      let all = one ds checked.scanned.proper m [] End in
      let is : run.report ≡ end.report = all.only run.report own ∙ sym (all.only end.report (inl (low, end.run))) in
      ends_by to_come kinds given_by new result run.report run.answers (ap (λ (r : RunReport). r.status) is ∙ end.status)
      (ap (λ (r : RunReport). r.converted) is ∙ end.converted) (ap (λ (r : RunReport). r.met) is ∙ end.met)
      (scan.rest ∙ ap (λ (k : ℕ). Some (drop k [])) (ap (λ (r : RunReport). r.used) is ∙ end.used))

  -- by whether a row is left
  abbrev NextGives : List (List Datum) → List ℕ → Type 0
  NextGives [] z = (z ≡ []) × EndsRows to_come new result
  NextGives (values ∷ more) z = GivesRow to_come listed new values (joined us more ++ z) result

  next_gives : (rows : List (List Datum)) (z : List ℕ) → AreReadable us ds m most rows z → HasShape kinds optional ds → failures new.source
      ≡ 0
      → (left : List (List Datum)) → rows ≡ map listed done ++ left → input_of to_come now ≡ Some (joined us left ++ z) → NextGives left z
  next_gives rows z readable shape sound [] is input =
      let none : z ≡ [] = nothing_follows listed us ds m most rows z done readable is few in
      (none, ends_rows sound (input ∙ ap Some none))
  next_gives rows z readable shape sound (values ∷ more) is input =
      let fit = all_after (Fit us ds) (map listed done) (values ∷ more) (subst (AllByRecursion (Fit us ds)) is readable.fit) in
      let short = all_after (λ v. length (printed us v) ≤ m) (map listed done) (values ∷ more)
      (subst (AllByRecursion (λ v. length (printed us v) ≤ m)) is readable.short) in
      gives_row shape sound values fit.0 short.0 (joined us more ++ z)
      (input ∙ ap Some (append_assoc (printed us values) (joined us more) z))

  -- where that is
  record Here (rows : List (List Datum)) (z : List ℕ) : Type 0 where
    left : List (List Datum)
    rows_are : rows ≡ map listed done ++ left
    gives : NextGives left z

  here : (rows : List (List Datum)) (z : List ℕ) → AreReadable us ds m most rows z → HasShape kinds optional ds
      → input_of to_come old ≡ Some (joined us rows ++ z) → failures new.source ≡ 0 → Here rows z
  here rows z readable shape input sound =
      let (left, is, rest) = going rows z readable shape input
      (not_before (is_fault run.report.met) (failures now.source) (sym run.failed ∙ sound))
      in record { left = left; rows_are = is; gives = next_gives rows z readable shape sound left is rest }

  -- a row was read
  pub went_on : (row : T) → result ≡ Ok row → Going to_come failures kinds optional listed us ds m most old new (done ++ row ∷ [])
  went_on row e rows z readable shape input sound =
      let h = here rows z readable shape input sound in by h.left h.rows_are h.gives
    where
      by : (left : List (List Datum)) → rows ≡ map listed done ++ left → NextGives left z
          → (more : List (List Datum)) × (rows ≡ map listed (done ++ row ∷ []) ++ more) ×
          (input_of to_come new ≡ Some (joined us more ++ z))
      by [] is gives = absurd (subst (EndsRows to_come new) e gives.1)
      by (values ∷ more) is gives =
          let own = subst (GivesRow to_come listed new values (joined us more ++ z)) e gives in
          (more, is ∙ ap (λ (v : List Datum). map listed done ++ v ∷ more) (sym own.0) ∙ map_more listed done row more, own.1)

  -- the run of the next one failed: there is none
  pub finished : (outcome : Outcome) → result ≡ Err (Failed outcome) → (rows : List (List Datum)) (z : List ℕ)
      → AreReadable us ds m most rows z → HasShape kinds optional ds → input_of to_come old ≡ Some (joined us rows ++ z) → failures
      new.source ≡ 0
      → (map listed done ≡ rows) × (input_of to_come new ≡ Some z) × (outcome.status ≡ InputFailure) × (outcome.converted ≡ 0)
      × (outcome.met ≡ Some End)
  finished outcome e rows z readable shape input sound =
      let h = here rows z readable shape input sound in by h.left h.rows_are h.gives
    where
      by : (left : List (List Datum)) → rows ≡ map listed done ++ left → NextGives left z
          → (map listed done ≡ rows) × (input_of to_come new ≡ Some z) × (outcome.status ≡ InputFailure) × (outcome.converted ≡ 0)
          × (outcome.met ≡ Some End)
      by [] is (none, gives) =
          let own = subst (EndsRows to_come new) e gives in
          (sym (is ∙ append-nil (map listed done)), own.3 ∙ ap Some (sym none), own.0, own.1, own.2)
      by (values ∷ more) is gives = absurd (subst (GivesRow to_come listed new values (joined us more ++ z)) e gives)

-- ---- what ends the reading

end_is : (o : Outcome) → o.status ≡ InputFailure → o.converted ≡ 0 → o.met ≡ Some End → ends_at o.converted o.status o.met ≡ true
end_is o status converted met = rw (status, converted, met) refl

module _ (laws : PairLaws) (nothing : AlignedEndsOnNothing) (one : EachHasOneReport) {S T : Type 0} (to_come : S → Option (List ℕ))
    (reads failures : S → ℕ) (N : ℕ) (us : List PrintUnit)
    (ds : List Directive) (checked : IsChecked us ds) (kinds : List Kind) (optional : ℕ → Bool)
    (given_by : T → List (Option Datum)) (listed : T → List Datum) (m most : ℕ) (old now new : Ahead S)
    (done : List T) (going : Going to_come failures kinds optional listed us ds m most old now done) (few : length done < most)
    (result : Result T ScanRowFault)
    (run : is_run result ≡ true → RowScan to_come reads failures N kinds given_by ds m now new result)
    (lists : Lists given_by listed result) where
  -- no row is left
  pub all_back : (why : ScanRowFault) → result ≡ Err why → is_end why ≡ true → (rows : List (List Datum)) (z : List ℕ)
      → AreReadable us ds m most rows z → HasShape kinds optional ds → input_of to_come old ≡ Some (joined us rows ++ z) → failures
      new.source ≡ 0
      → (map listed done ≡ rows) × (input_of to_come new ≡ Some z)
  all_back (Failed outcome) e is rows z readable shape input sound =
      let all = finished laws nothing one to_come reads failures N us ds checked kinds optional given_by listed m most old now new done
      going few result
      (run (ap is_run e)) lists outcome e rows z readable shape input sound in (all.0, all.1)
  all_back NoMemory e is rows z readable shape input sound = absurd (true≢false (sym is))
  all_back (ShapeDiffers by) e is rows z readable shape input sound = absurd (true≢false (sym is))
  all_back (LeftOver at) e is rows z readable shape input sound = absurd (true≢false (sym is))
  all_back (Start fault) e is rows z readable shape input sound = absurd (true≢false (sym is))

  -- memory was refused
  pub refused : (why : ScanRowFault) → result ≡ Err why → is_end why ≡ false → (IsSome (difference_in why) → HasShape kinds optional ds → ⊥)
      → ((fault : StartFault) → why ≡ Start fault → m ≤ 2147483647 → fault ≡ start.NoMemory)
      → (rows : List (List Datum)) (z : List ℕ)
      → AreReadable us ds m most rows z → HasShape kinds optional ds → input_of to_come old ≡ Some (joined us rows ++ z) → failures
      new.source ≡ 0
      → IsMemory why
  refused (Failed outcome) e is unshaped started rows z readable shape input sound =
      let all = finished laws nothing one to_come reads failures N us ds checked kinds optional given_by listed m most old now new done
      going few result
      (run (ap is_run e)) lists outcome e rows z readable shape input sound in
      absurd (true≢false (sym (end_is outcome all.2 all.3 all.4) ∙ is))
  refused NoMemory e is unshaped started rows z readable shape input sound = tt
  refused (ShapeDiffers by) e is unshaped started rows z readable shape input sound = absurd (unshaped refl shape)
  refused (LeftOver at) e is unshaped started rows z readable shape input sound =
      (subst (RowScan to_come reads failures N kinds given_by ds m now new) e (run (ap is_run e))).answers
  refused (Start fault) e is unshaped started rows z readable shape input sound = started fault refl readable.low

-- a scan that wasn't started, by what `scan_row_over` says
pub start_is : {T : Type 0} (result : Result T ScanRowFault) (why : ScanRowFault) (kinds : List Kind) (optional : ℕ → Bool)
    (ds : List Directive) (m : ℕ)
    → result ≡ Err why
    → (IsErrOf result (Start start.BadLimit) → HasShape kinds optional ds × (2147483647 < m))
    → ((fault : StartFault) → IsErrOf result (Start fault) → (fault ≡ start.BadLimit) ⊎ (fault ≡ start.NoMemory))
    → (fault : StartFault) → why ≡ Start fault → m ≤ 2147483647 → fault ≡ start.NoMemory
start_is {T} result why kinds optional ds m e limit begun fault is low =
    let same : result ≡ Err (Start fault) = e ∙ ap Err is in
    let own : (r : Result T ScanRowFault) → r ≡ Err (Start fault) → IsErrOf r (Start fault) =
    (λ r h. subst (λ x. IsErrOf x (Start fault)) (sym h) refl) in
    elim (begun fault (own result same)) [
      | inl bad ↦ absurd (let h = limit (subst (λ f. IsErrOf result (Start f)) bad (own result same)) in omega (arith, h.1, low))
      | inr memory ↦ memory
    ]

pub shape_is : {T : Type 0} (result : Result T ScanRowFault) (why : ScanRowFault) (kinds : List Kind) (optional : ℕ → Bool)
    (ds : List Directive)
    → result ≡ Err why
    → (IsSome (difference_of result) → HasShape kinds optional ds → ⊥) → IsSome (difference_in why) → HasShape kinds optional ds → ⊥
shape_is result why kinds optional ds e unshaped is = unshaped (subst (λ x. IsSome (difference_of x)) (sym e) is)

-- ---- the end of the input

ends_met : (converted : ℕ) (status : Status) (met : Option Ending) → ends_at converted status met ≡ true → met ≡ Some End
ends_met converted status met e = grind arith

-- where there was no row since the input ended, the source has reported its end
pub end_seen : {S T : Type 0} (to_come : S → Option (List ℕ)) (reads failures : S → ℕ) (N : ℕ) (kinds : List Kind)
    (given_by : T → List (Option Datum))
    (ds : List Directive) (m : ℕ) (now new : Ahead S) (result : Result T ScanRowFault) (why : ScanRowFault) → result ≡ Err why
    → is_end why ≡ true → (is_run result ≡ true → RowScan to_come reads failures N kinds given_by ds m now new result) → new.at_end ≡ true
end_seen to_come reads failures N kinds given_by ds m now new result (Failed outcome) e is run =
    let r = run (ap is_run e) in
    let own = subst (Answers kinds given_by r.report) e r.answers in
    r.end (sym (ap (λ (x : RunReport). x.met) own.1) ∙ ends_met outcome.converted outcome.status outcome.met is)
end_seen to_come reads failures N kinds given_by ds m now new result NoMemory e is run = absurd (true≢false (sym is))
end_seen to_come reads failures N kinds given_by ds m now new result (ShapeDiffers by) e is run = absurd (true≢false (sym is))
end_seen to_come reads failures N kinds given_by ds m now new result (LeftOver at) e is run = absurd (true≢false (sym is))
end_seen to_come reads failures N kinds given_by ds m now new result (Start fault) e is run = absurd (true≢false (sym is))
