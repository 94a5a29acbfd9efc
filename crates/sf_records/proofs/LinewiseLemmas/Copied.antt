-- What was written of lines by a pair is copied as it is.
use Rattle.std.proofs.Common.{◌≡◌, ℕ, zero, suc, ◌+◌, ◌<◌, ◌≤◌, ◌∷◌, ◌++◌, Bool, true, false, ◌||◌, ◌&&◌, List, [], length, drop}
use Rattle.std.proofs.Common.{Option, Some, None, Ok, Err, inl, inr, refl, sym, ap, ap₂, ◌∙◌, subst, arith, append-nil, length-append}
use Rattle.std.proofs.Common.{true≢false, is_some, cond, if◌then◌else◌, le-ltb}
use Rattle.std.specs.List.{AllByRecursion, count_by, list_any}
use Rattle.std.proofs.lemmas.List.Sums.{sum_by-append, sum_by-cons}
use Rattle.sf_base.specs.Data.{Assigned, Datum}
use Rattle.sf_base.specs.declared.values.Kind.TheVariants as kind
use Rattle.sf_format.specs.declared.directive.Conversion.{Conversion}
use Rattle.sf_format.specs.declared.directive.Directive.{Directive}
use Rattle.sf_format.specs.declared.directive.Directive.TheVariants.{Space, Byte, Percent, Conv, Opens}
use Rattle.sf_format.specs.declared.directive.Shape.TheVariants.{Set}
use Rattle.sf_format.specs.declared.unit.Unit.{Unit as PrintUnit}
use Rattle.sf_format.specs.Proper.{AreProper, destinations_of, has_optional, is_optional}
use Rattle.sf_pair.specs.Fits.{Fit, FitsIsFit, fits}
use Rattle.sf_pair.specs.Laws.{AlignedIsWhole, AlignedSlotsAgree, RoundTrip, read_back}
use Rattle.sf_print.specs.Printed.{printed}
use Rattle.sf_read.specs.line.Cut.{IsLine, joined, lines_of}
use Rattle.sf_read.specs.line.Laws.{LinesAreJoined}
use Rattle.sf_run.specs.outcome.Ending.TheVariants.{End}
use Rattle.sf_run.specs.outcome.Status.{Status}
use Rattle.sf_run.specs.outcome.Status.TheVariants.{Done}
use Rattle.sf_run.specs.outcome.Outcome.{Outcome}
use Rattle.sf_run.specs.Rows.{AreRowOf}
use Rattle.sf_run.specs.Steps.{StepEnd, Passes, Stores, Misses, Fails, EmptyItem, ItemEnds, Step}
use Rattle.sf_run.specs.Runs.{Ran, GoesOn, Steps, StepsPast, over, RunReport, bytes_used, values_stored, value_stored, failure_of}
use Rattle.sf_run.specs.Runs.{status_of}
use Rattle.sf_run.specs.Runs.{place_of_failure, report_of}
use Rattle.sf_run.specs.Limits.{RunWithin}
use Rattle.sf_run.specs.Laws.{EachHasOneReport, EachRunIsComputed, EachDoneRunStays}
use Rattle.sf_forms.specs.makers.Works.{Work, outcome_of}
use Rattle.sf_records.specs.declared.by_lines.end.LineFault.{LineFault}
use Rattle.sf_records.specs.declared.by_lines.end.LineFault.TheVariants.{LeftOver}
use Rattle.sf_records.specs.declared.by_lines.options.LinesOptions.{LinesOptions}
use Rattle.sf_records.specs.Copied.{IsPair}
use Rattle.sf_records.specs.Copies.{copying, is_copied, row_in}
use Rattle.sf_records.specs.by_lines.Copied.{CopiedAgain, CopyingLinesTwice, IsLineText, copying_lines, reads_one}
use Rattle.sf_records.specs.by_lines.Loops.{AreTurns, IfGoing, is_written, text_of, texts}
use Rattle.sf_records.specs.by_lines.Turns.{Comes, LineWork, Miss, Turn, fault_by, fault_from, fault_of, is_other, judged, written_by}
use Rattle.sf_records.proofs.Copying.{row_is}

-- ---- a run of directives and one more

or_false : (a b : Bool) → a || b ≡ false → (a ≡ false) × (b ≡ false)
or_false false b e = (refl, e)
or_false true b e = absurd (true≢false e)

-- no directive failed
abbrev fails : List Ran → Bool
fails ran = list_any (λ r. is_some (failure_of r.end)) ran

all_done : (ran : List Ran) → fails ran ≡ false → status_of ran ≡ Done
all_done [] none = refl
all_done (r ∷ ran) none =
    let each = or_false (is_some (failure_of r.end)) (fails ran) none in
    by (failure_of r.end) refl each.0 (all_done ran each.1)
  where
    by : (o : Option _) → failure_of r.end ≡ o → is_some (failure_of r.end) ≡ false → status_of ran ≡ Done → status_of (r ∷ ran) ≡ Done
    by None e h rest = ap (λ (o : Option Status). elim o [ None ↦ status_of ran | Some status ↦ status ]) e ∙ rest
    by (Some status) e h rest = absurd (true≢false (sym (ap is_some e) ∙ h))

none_failed : (ran : List Ran) → 0 ≡ place_of_failure ran → fails ran ≡ false
none_failed [] e = refl
none_failed (r ∷ ran) e = by (fails (r ∷ ran)) refl e
  where
    by : (b : Bool) → fails (r ∷ ran) ≡ b → 0 ≡ (if b then length (r ∷ ran) else 0) → fails (r ∷ ran) ≡ false
    by false h e = h
    by true h e = absurd (omega (arith, e))

goes : (end : StepEnd) (rest : Type 0) (ran : List Ran) → is_some (failure_of end) ≡ false → GoesOn end rest ran → rest
goes Passes rest ran none h = h
goes (Stores slot v) rest ran none h = h
goes Misses rest ran none h = h
goes (Fails status) rest ran none h = absurd (true≢false none)

goes_so : (end : StepEnd) (rest : Type 0) (ran : List Ran) → is_some (failure_of end) ≡ false → rest → GoesOn end rest ran
goes_so Passes rest ran none h = h
goes_so (Stores slot v) rest ran none h = h
goes_so Misses rest ran none h = h
goes_so (Fails status) rest ran none h = absurd (true≢false none)

cons_values : (r : Ran) (a b : List Ran) → values_stored a ≡ values_stored b → values_stored (r ∷ a) ≡ values_stored (r ∷ b)
cons_values r a b e = by (value_stored r) refl
  where
    by : (o : Option Assigned) → value_stored r ≡ o → values_stored (r ∷ a) ≡ values_stored (r ∷ b)
    by None h = rw h e
    by (Some v) h = rw h (ap (λ t. v ∷ t) e)

-- ---- one byte that is read and not stored

empty_fails : (y : List ℕ) (end : StepEnd) → EmptyItem false y end → is_some (failure_of end) ≡ false → ⊥
empty_fails [] end e none = true≢false (sym (ap (λ (d : StepEnd). is_some (failure_of d)) e) ∙ none)
empty_fails (b ∷ y) end e none = true≢false (sym (ap (λ (d : StepEnd). is_some (failure_of d)) e) ∙ none)

-- its conversion
abbrev one_of : List Bool → Conversion
one_of members =
    record { shape = Set members; kind = kind.Text; width = Some 1; slot = None; optional = false; opens = None; column = false }

passes_one : (members : List Bool) (x : List ℕ) (n bytes : ℕ) (end : StepEnd) → Step (reads_one members) x n bytes end
    → is_some (failure_of end) ≡ false → (bytes ≡ 1) × (end ≡ Passes)
passes_one members x n bytes end (s, j, skip, item, sum, ends) none = by j item.holds.1 sum ends
  where
    by : (j : ℕ) → j ≤ 1 → bytes ≡ s + j → ItemEnds (one_of members) (drop s x) j end → (bytes ≡ 1) × (end ≡ Passes)
    by zero few sum ends = absurd (empty_fails (drop s x) end ends none)
    by (suc zero) few sum (inl h) = (omega (arith, sum, skip), h.1)
    by (suc zero) few sum (inr h) = absurd (true≢false (sym (ap (λ (d : StepEnd). is_some (failure_of d)) h.1) ∙ none))
    by (suc (suc j)) few sum ends = absurd (omega (arith, few))

none_stored : (r : Ran) → r.end ≡ Passes → value_stored r ≡ None
none_stored r e = rw e refl

none_of : (r : Ran) → value_stored r ≡ None → values_stored (r ∷ []) ≡ []
none_of r e = rw e refl

-- ---- a run of directives, none of which may be missing, and then of that one

-- none is missing with one of these
alone : (d : Directive) (end : StepEnd) → is_optional d ≡ false → over d end ≡ 0
alone d Passes needed = refl
alone d (Stores slot v) needed = refl
alone d (Fails status) needed = refl
alone (Conv c) Misses needed = rw needed refl
alone (Opens o) Misses needed = absurd cc
alone Space Misses needed = refl
alone (Byte b) Misses needed = refl
alone Percent Misses needed = refl

needed_parts : (d : Directive) (ds : List Directive) → has_optional (d ∷ ds) ≡ false → (is_optional d ≡ false) × (has_optional ds ≡ false)
needed_parts d ds e = or_false (is_optional d) (has_optional ds) e

record Fronted (front : List Directive) (x : List ℕ) (n : ℕ) (ran : List Ran) : Type 0 where
  pub before : List Ran
  pub steps : Steps front x n before
  pub none : fails before ≡ false
  pub used_is : bytes_used ran ≡ bytes_used before + 1
  pub values_are : values_stored ran ≡ values_stored before

fronted : (front : List Directive) (members : List Bool) (x : List ℕ) (n : ℕ) (ran : List Ran)
    → has_optional front ≡ false → Steps (front ++ reads_one members ∷ []) x n ran → fails ran ≡ false → Fronted front x n ran
fronted [] members x n [] needed h none = absurd h
fronted [] members x n (r ∷ []) needed h none =
    let each = or_false (is_some (failure_of r.end)) false none in
    let one = passes_one members x n r.bytes r.end h.1 each.0 in
    record {
      before = [];
      steps = tt;
      none = refl;
      used_is = omega (arith, one.0, sum_by-cons (λ (s : Ran). s.bytes) r []);
      values_are = none_of r (none_stored r one.1);
    }
fronted [] members x n (r ∷ q ∷ ran) needed h none =
    let each = or_false (is_some (failure_of r.end)) (fails (q ∷ ran)) none in
    absurd (goes r.end (StepsPast (over (reads_one members) r.end) [] (drop r.bytes x) (n + r.bytes) (q ∷ ran)) (q ∷ ran) each.0 h.2)
fronted (d ∷ front) members x n [] needed h none = absurd h
fronted (d ∷ front) members x n (r ∷ ran) needed h none =
    let each = or_false (is_some (failure_of r.end)) (fails ran) none in
    let parts = needed_parts d front needed in
    let k : over d r.end ≡ 0 = alone d r.end parts.0 in
    let rest = front ++ reads_one members ∷ [] in
    let later = fronted front members (drop r.bytes x) (n + r.bytes) ran parts.1
    (subst (λ m. StepsPast m rest (drop r.bytes x) (n + r.bytes) ran) k
    (goes r.end (StepsPast (over d r.end) rest (drop r.bytes x) (n + r.bytes) ran) ran each.0 h.2)) each.1 in
    record {
      before = r ∷ later.before;
      steps = (
        h.0,
        h.1,
        goes_so r.end (StepsPast (over d r.end) front (drop r.bytes x) (n + r.bytes) later.before) later.before each.0
            (subst (λ m. StepsPast m front (drop r.bytes x) (n + r.bytes) later.before) (sym k) later.steps),
      );
      none = ap₂ (λ a b. a || b) each.0 later.none;
      used_is = omega (
        arith,
        later.used_is,
        sum_by-cons (λ (s : Ran). s.bytes) r ran,
        sum_by-cons (λ (s : Ran). s.bytes) r later.before,
      );
      values_are = cons_values r ran later.before later.values_are;
    }

proper_front : (front : List Directive) (d : Directive) → AreProper (front ++ d ∷ []) → AreProper front
proper_front [] d h = tt
proper_front (e ∷ front) d h = (h.0, proper_front front d h.1)

needed_front : (front : List Directive) (d : Directive) → has_optional (front ++ d ∷ []) ≡ false → has_optional front ≡ false
needed_front [] d h = refl
needed_front (e ∷ front) d h =
    let parts = needed_parts e (front ++ d ∷ []) h in rw parts.0 (needed_front front d parts.1)

-- ---- a line that is used whole

clean_by : (whole : Bool) (size : ℕ) (o : Outcome) → o.status ≡ Done → o.used ≡ size → fault_by whole size o ≡ None
clean_by whole size o done used =
    ap (λ (s : Status). fault_from whole size s o) done
    ∙ ap (λ (b : Bool). if whole && b then Some (LeftOver o.used) else None) (le-ltb o.used size (omega (arith, used))) ∙ by whole
  where
    by : (b : Bool) → (if b && false then Some (LeftOver o.used) else None) ≡ None
    by true = refl
    by false = refl

-- ---- a text that was written

judged_ok : (matching : Bool) (made : Work) (r : RunReport) (line : List ℕ) (fault : Option LineFault) (text : List ℕ)
    → Some (Ok text) ≡ judged matching made r line fault → (made.fits r ≡ true) × (text ≡ made.text r)
judged_ok matching made r line None text e = by (made.fits r) refl e
  where
    by : (b : Bool) → made.fits r ≡ b → Some (Ok text) ≡ written_by b (made.text r) line → (made.fits r ≡ true) × (text ≡ made.text r)
    by true h e = (h, ap text_of e)
    by false h e = absurd (true≢false (ap is_written e))
judged_ok matching made r line (Some fault) text e = by (matching && is_other fault) e
  where
    by : (b : Bool) → ◌≡◌ {A = Turn} (Some (Ok text)) (if b then None else Some (Err (line, fault)))
        → (made.fits r ≡ true) × (text ≡ made.text r)
    by true e = absurd (true≢false (ap is_written e))
    by false e = absurd (true≢false (ap is_written e))

and_left : (a b : Bool) → a && b ≡ true → a ≡ true
and_left true b e = refl
and_left false b e = absurd (true≢false (sym e))

module _ (back : RoundTrip) (agree : AlignedSlotsAgree) (tests : FitsIsFit) (one : EachHasOneReport) (computed : EachRunIsComputed)
    (whole : AlignedIsWhole) (stays : EachDoneRunStays) (units : List PrintUnit) (ds front : List Directive) (members : List Bool)
    (pair : IsPair units ds)
    (ends : ds ≡ front ++ reads_one members ∷ []) (options : LinesOptions) (skip : options.skip ≡ 0)
    (telling : ℕ → List ℕ → LineFault → List ℕ) where
  abbrev w : LineWork
  w = copying_lines options units ds front telling

  abbrev slots : ℕ
  slots = length (destinations_of ds)

  proper : AreProper front
  proper = proper_front front (reads_one members) (subst AreProper ends pair.scanned.proper)

  needed : has_optional front ≡ false
  needed = needed_front front (reads_one members) (subst (λ (l : List Directive). has_optional l ≡ false) ends
      (whole units ds pair.aligned))

  -- ---- a line is read back

  record IsRead (line : List ℕ) (row : List Datum) : Type 0 where
    pub report : RunReport
    pub ran : RunWithin front options.limit line End report
    pub done : report.status ≡ Done
    pub used : report.used ≡ length line
    pub values : report.values ≡ (read_back units ds row).values

  read : (row : List Datum) → Fit units ds row → (line : List ℕ) → length line ≤ options.limit → printed units row ≡ line ++ 10 ∷ []
      → IsRead line row
  read row fit line short text =
      let x = line ++ 10 ∷ [] in
      let run = back units ds pair.printed pair.scanned pair.aligned row fit [] End in
      let same : printed units row ++ [] ≡ x = append-nil (printed units row) ∙ text in
      let f = fronted front members x 0 run.0 needed
      (subst (λ (y : List ℕ). Steps (front ++ reads_one members ∷ []) y 0 run.0) same
      (subst (λ (d : List Directive). Steps d (printed units row ++ []) 0 run.0) ends run.1))
      (none_failed run.0 (ap (λ (r : RunReport). r.at) run.4)) in
      let size : bytes_used f.before ≡ length line = omega (
        arith,
        f.used_is,
        ap (λ (r : RunReport). r.used) run.4,
        ap (λ (t : List ℕ). length t) text,
        length-append line (10 ∷ []),
      ) in
      let all = one front proper options.limit x End in
      by run.0 f size all.report all.is (ap (λ (r : RunReport). r.values) run.4)
    where
      by : (ran : List Ran) (f : Fronted front (line ++ 10 ∷ []) 0 ran) → bytes_used f.before ≡ length line → (report : RunReport)
          → RunWithin front options.limit (line ++ 10 ∷ []) End report → (read_back units ds row).values ≡ values_stored ran
          → IsRead line row
      by ran f size report (inl h) vs =
          let is = h.1.4 ∙ ap (λ (t : List Ran). report_of t h.1.2)
          ((computed front proper (line ++ 10 ∷ []) 0 h.1.0).0 h.1.1
          ∙ sym ((computed front proper (line ++ 10 ∷ []) 0 f.before).0 f.steps)) in
          let done : report.status ≡ Done = ap (λ (r : RunReport). r.status) is ∙ all_done f.before f.none in
          let bytes : report.used ≡ length line = ap (λ (r : RunReport). r.used) is ∙ size in
          let s = stays front proper options.limit line (10 ∷ []) End End report (inl h) done (omega (arith, bytes)) in
          record {
            report = record report { met = s.0 };
            ran = s.1;
            done = done;
            used = bytes;
            values = ap (λ (r : RunReport). r.values) is ∙ sym f.values_are ∙ sym vs;
          }
      by ran f size report (inr h) vs =
          let cut = h.1 in
          let same = (computed front proper (line ++ 10 ∷ []) 0 (h.0 ++ (cut.cut ∷ cut.rest))).0 cut.steps
          ∙ sym ((computed front proper (line ++ 10 ∷ []) 0 f.before).0 f.steps) in
          absurd (omega (
            arith,
            size,
            short,
            cut.high,
            ap bytes_used same,
            sum_by-append (λ (s : Ran). s.bytes) h.0 (cut.cut ∷ cut.rest),
            sum_by-cons (λ (s : Ran). s.bytes) cut.cut cut.rest,
          ))

  comes : (row : List Datum) → Fit units ds row → is_copied units ds row ≡ true → (line : List ℕ) → length line ≤ options.limit
      → printed units row ≡ line ++ 10 ∷ [] → (k : ℕ) → 0 < k → Comes w k line (Some (Ok (printed units row)))
  comes row fit copied line short text k some =
      let r = read row fit line short text in
      let v = agree units ds pair.printed pair.scanned pair.aligned row fit in
      let is_row : row_in ds r.report ≡ row =
      row_is slots row r.report.values (subst (λ (n : ℕ). AreRowOf n row r.report.values) v.count
      (subst (AreRowOf (length row) row) (sym r.values) v.row)) in
      let clean : fault_of options line r.report ≡ None = clean_by options.whole (length line) (outcome_of r.report) r.done r.used in
      let written : written_by (is_copied units ds (row_in ds r.report)) (printed units (row_in ds r.report)) line
      ≡ Some (Ok (printed units row)) = ap₂ (λ (b : Bool) (t : List ℕ). written_by b t line)
      (ap (is_copied units ds) is_row ∙ copied) (ap (printed units) is_row) in
      let turn = sym (ap (judged options.matching (copying units ds) r.report line) clean ∙ written) in
      inr (
        subst (λ (n : ℕ). n < k) (sym skip) some,
        inr (
          short,
          inr (
            tt,
            (
              front,
              r.report,
              record { before = []; after = []; among = refl; missed = tt; ran = r.ran; counts = inl clean },
              turn,
            ),
          ),
        ),
      )

  -- ---- what was written

  record Came (text : List ℕ) : Type 0 where
    pub row : List Datum
    pub fit : Fit units ds row
    pub copied : is_copied units ds row ≡ true
    pub is : text ≡ printed units row

  came_of : (text : List ℕ) (r : RunReport) → (is_copied units ds (row_in ds r) ≡ true) × (text ≡ printed units (row_in ds r)) → Came text
  came_of text r h = record {
    row = row_in ds r;
    fit = (tests units ds (row_in ds r)).0 (and_left (fits units ds (row_in ds r)) _ h.0);
    copied = h.0;
    is = h.1;
  }

  came : (k : ℕ) (line text : List ℕ) → Comes w k line (Some (Ok text)) → Came text
  came k line text (inl h) = absurd (true≢false (ap is_written h.1))
  came k line text (inr h) = elim h.1 [
    | inl long ↦ absurd (true≢false (ap is_written long.1))
    | inr b ↦ elim b.1 [
      | inl ignored ↦ absurd (true≢false (ap is_written ignored.1))
      | inr j ↦
          came_of text j.1.1 (judged_ok options.matching (copying units ds) j.1.1 line (fault_of options line j.1.1) text j.1.3)
    ]
  ]

  -- ---- the lines of what was written

  record Lined (turns : List Turn) : Type 0 where
    pub lines : List (List ℕ)
    pub again : List Turn
    pub each : AllByRecursion IsLine lines
    pub joined_is : texts turns ≡ joined lines
    pub are : (n : ℕ) → AreTurns w n lines again
    pub same : texts again ≡ texts turns
    pub count : length again ≡ count_by is_written turns
    pub all : AllByRecursion (λ (t : Turn). is_written t ≡ true) again

  nothing : Lined []
  nothing = record { lines = []; again = []; each = tt; joined_is = refl; are = λ n. refl; same = refl; count = refl; all = tt }

  after_none : (turns : List Turn) → Lined turns → Lined (None ∷ turns)
  after_none turns l = record {
    lines = l.lines;
    again = l.again;
    each = l.each;
    joined_is = l.joined_is;
    are = l.are;
    same = l.same;
    count = l.count;
    all = l.all;
  }

  after_miss : (miss : Miss) (turns : List Turn) → Lined turns → Lined (Some (Err miss) ∷ turns)
  after_miss miss turns l = record {
    lines = l.lines;
    again = l.again;
    each = l.each;
    joined_is = l.joined_is;
    are = l.are;
    same = l.same;
    count = l.count;
    all = l.all;
  }

  if_going : (b : Bool) (rest : Type 0) (turns : List Turn) → IfGoing b rest turns → (rest → Lined turns) → Lined turns
  if_going true rest turns h go = go h
  if_going false rest turns h go = subst Lined (sym h) nothing

  lined : (n : ℕ) (lines : List (List ℕ)) (turns : List Turn) → AreTurns w n lines turns
      → AllByRecursion (IsLineText options.limit) turns → Lined turns
  lined n [] [] h s = nothing
  lined n [] (turn ∷ turns) h s = absurd (omega (arith, ap (λ (t : List Turn). length t) h))
  lined n (line ∷ lines) [] h s = absurd h
  lined n (line ∷ lines) (None ∷ turns) h s = after_none turns (lined (n + 1) lines turns h.1 s.1)
  lined n (line ∷ lines) (Some (Err miss) ∷ turns) h s =
      after_miss miss turns (if_going options.keep_going (AreTurns w (n + 1) lines turns) turns h.1 (λ g. lined (n + 1) lines turns g s.1))
  lined n (line ∷ lines) (Some (Ok text) ∷ turns) h s =
      let c = came (n + 1) line text h.0 in
      let l = s.0 in
      let later = lined (n + 1) lines turns h.1 s.1 in
      record {
        lines = l.0 ∷ later.lines;
        again = Some (Ok text) ∷ later.again;
        each = (l.1, later.each);
        joined_is = ap₂ (λ (a b : List ℕ). a ++ b) l.3 later.joined_is;
        are = λ k. (
          subst (λ (t : List ℕ). Comes w (k + 1) l.0 (Some (Ok t))) (sym c.is)
              (comes c.row c.fit c.copied l.0 l.2 (sym c.is ∙ l.3) (k + 1) (omega arith)),
          later.are (k + 1),
        );
        same = ap (λ (t : List ℕ). text ++ t) later.same;
        count = omega (arith, later.count, sum_by-cons (λ (t : Turn). cond (is_written t) 1 0) (Some (Ok text)) turns);
        all = (refl, later.all);
      }

pub copied_twice : RoundTrip → AlignedSlotsAgree → FitsIsFit → EachHasOneReport → EachRunIsComputed → AlignedIsWhole → EachDoneRunStays
    → LinesAreJoined → CopyingLinesTwice
copied_twice back agree tests one computed whole stays joins units ds front members pair ends options skip telling n lines turns are each =
    let l = lined back agree tests one computed whole stays units ds front members pair ends options skip telling n lines turns are each in
    record {
      again = l.again;
      are = subst (λ (ls : List (List ℕ)). AreTurns (copying_lines options units ds front telling) 0 ls l.again)
          (sym (ap lines_of l.joined_is ∙ joins l.lines l.each)) (l.are 0);
      same = l.same;
      count = l.count;
      all = l.all;
    }
