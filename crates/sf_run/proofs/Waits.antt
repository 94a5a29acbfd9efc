-- When a scanner waits, what it has used, and what it tells.
use Rattle.std.proofs.Common.{◌≡◌, ℕ, ◌+◌, ◌<◌, ◌≤◌, inl, inr, true, false, cond, List, [], ◌∷◌, ◌++◌, length, drop, Option, Some, None}
use Rattle.std.proofs.Common.{is_some, refl, sym, ap, subst, ◌∙◌, arith, append_assoc, length-append, lit<, true≢false}
use Rattle.std.specs.Prelude.{slice_get, IfNone, IsSome}
use Rattle.std.proofs.lemmas.Bool.{le-ltb, cases_lt}
use Rattle.std.proofs.lemmas.List.{append-nil}
use Rattle.sf_format.specs.declared.directive.Conversion.{Conversion}
use Rattle.sf_format.specs.declared.directive.Lead.{Lead}
use Rattle.sf_format.specs.declared.directive.Shape.{Shape}
use Rattle.sf_format.specs.declared.directive.Shape.TheVariants.{Int, Text, Set, Chars, Float, Count}
use Rattle.sf_format.specs.declared.directive.Directive.{Directive}
use Rattle.sf_format.specs.declared.directive.Directive.TheVariants.{Conv}
use Rattle.sf_format.specs.Proper.{IsProper, AreProper}
use Rattle.sf_item.specs.declared.item.ItemScan.{ItemScan}
use Rattle.sf_item.specs.Taking.{conversion_of}
use Rattle.sf_item.specs.Tests.{can_take}
use Rattle.sf_item.specs.declared.column.ColumnScan.{ColumnScan}
use Rattle.sf_item.specs.Columns.{column_width}
use Rattle.sf_item.specs.ColumnScans as columns
use Rattle.sf_run.specs.declared.directive.Phase.{Phase}
use Rattle.sf_run.specs.declared.directive.Phase.TheVariants as phase
use Rattle.sf_report.specs.declared.outcome.Ending.{Ending}
use Rattle.sf_report.specs.declared.outcome.Status.TheVariants.{TooLong}
use Rattle.sf_run.specs.declared.scanner.Stop.{Stop}
use Rattle.sf_report.specs.Runs.{Ran, RunReport, IsOpen}
use Rattle.sf_report.specs.Limits.{IsCut, RunWithin, TellsWithin, cut_report}
use Rattle.sf_report.specs.Machine.{Stage, Skipping, Item, conversion_stepped, stepped, is_full}
use Rattle.sf_run.specs.Phases.{ShowsColumn, ShowsItem, Shows, stage_of}
use Rattle.sf_report.specs.Residual.{Tally, nothing_yet, with_used, out_of, run_of, run_from}
use Rattle.sf_run.specs.Standing.{Standing, ShowsFirst, DoesBy, Does, Follows, Waits, IsSettled, Keeps, Advances, After, Comes, ComesBy}
use Rattle.sf_run.specs.Standing.{HasCome, report_by, report_of, Gives}
use Rattle.sf_base.specs.Data.{Assigned}
use Rattle.sf_run.specs.declared.tally.Tally as code
use Rattle.sf_run.specs.Tallies.{tally_of}
use Rattle.sf_run.specs.Texts.{AreSound, is_column, opened_for}
use Rattle.sf_report.specs.Limits.{RunTold}
use Rattle.sf_base.specs.stores.Kept.{Opened}
use Rattle.sf_report.proofs.Inputs.{open_all}
use Rattle.sf_report.proofs.Machines.{some_is, can_take_one, IsReal, item_byte, item_byte-below, item_takes}
use Rattle.sf_run.proofs.Columns.{column_is_full, column_takes, stage_begun, stepped_plain}
use Rattle.sf_run.proofs.FloatTexts.{float_alike}
use Rattle.sf_run.proofs.Coming.{came, item_of_cut, text_of_cut}
use Rattle.sf_run.proofs.Groups.{drop_at}
use Rattle.sf_run.proofs.Moves.{proper_at, ended_does, waiting, byte_took, byte_past}
use Rattle.sf_report.proofs.Openness.{uses_within, within_limit, run_not_too_long, over_is_too_long, rest_too_long_at, rest_uses_nothing}
use Rattle.sf_report.proofs.Told.{run_told, told_exists, told_is, uses_is, uses_from, within_met, met_within}

-- ---- the runs of what a scanner was given

abbrev full : List Directive → List ℕ → RunReport
full ds x = run_of None ds 1 nothing_yet x

abbrev cut : ℕ → List Directive → List ℕ → RunReport
cut k ds x = run_of (Some k) ds 1 nothing_yet x

-- ---- one byte that is taken, at each stage that the phase shows

pub record OneByteOf (d : Directive) (IsShown : Stage → Type 0) : Type 0 where
  pub byte : ℕ
  pub is_byte : byte < 256
  pub taken : (q : Stage) → IsShown q → (r : Stage) × (stepped d q byte ≡ Some r)

abbrev OneByte : Directive → Phase → Type 0
OneByte d current = OneByteOf d (Shows d current)

-- a float may go on in many ways, but each item that the scan may have taken goes on alike
float_one : (d : Directive) (slot : Option ℕ) (scan : ItemScan) (lead : Lead) (q : Stage) → ShowsItem d slot scan q
    → is_full d q ≡ false → (conversion_of scan).shape ≡ Float lead → OneByteOf d (ShowsItem d slot scan)
float_one d slot scan lead q shows some is =
    let c : Conversion = conversion_of scan in
    let (b, below, r, first) = can_take_one (Conv c) (Item shows.item)
    (subst (λ s. is_full s (Item shows.item) ≡ false) shows.own (subst (λ s. is_full d s ≡ false) shows.stage some)) in
    record {
      byte = b;
      is_byte = below;
      taken = λ p e.
          let plain : c.column ≡ false = ap is_column (sym shows.own) ∙ shows.plain in
          let same = float_alike scan lead e.item shows.item b is e.taken shows.taken in (
            Item (e.item ++ b ∷ []),
            ap (λ s. stepped d s b) e.stage ∙ ap (λ s. stepped s (Item e.item) b) shows.own ∙ stepped_plain c plain (Item e.item) b
                ∙ ap (λ v. cond v (Some (Item (e.item ++ b ∷ []))) None)
                (same ∙ taken_by c shows.item b r (sym (stepped_plain c plain (Item shows.item) b) ∙ first)),
          );
    }
  where
    taken_by : (c : Conversion) (f : List ℕ) (b : ℕ) (r : Stage) → conversion_stepped c (Item f) b ≡ Some r
        → can_take c (f ++ b ∷ []) ≡ true
    taken_by c f b r e = grind arith

other_one : (d : Directive) → IsProper d → (slot : Option ℕ) (scan : ItemScan) (q : Stage) → ShowsItem d slot scan q
    → ((p : Stage) → ShowsItem d slot scan p → is_full d p ≡ false) → (IsReal (conversion_of scan).shape → ⊥)
    → OneByteOf d (ShowsItem d slot scan)
other_one d proper slot scan q shows more no_float =
    let own : IsProper (Conv (conversion_of scan)) = subst IsProper shows.own proper in
    record {
      byte = item_byte (conversion_of scan).shape own.0;
      is_byte = item_byte-below (conversion_of scan).shape own.0;
      taken = λ p e.
          let (r, is) = item_takes (conversion_of scan) own.0 no_float e.item
          (subst (λ s. is_full s (Item e.item) ≡ false) shows.own (subst (λ s. is_full d s ≡ false) e.stage (more p e))) in (
            r,
            ap (λ s. stepped d s (item_byte (conversion_of scan).shape own.0)) e.stage
                ∙ ap (λ s. stepped s (Item e.item) (item_byte (conversion_of scan).shape own.0)) shows.own ∙ is,
          );
    }

item_one : (d : Directive) → IsProper d → (slot : Option ℕ) (scan : ItemScan) (q : Stage) → ShowsItem d slot scan q
    → ((p : Stage) → ShowsItem d slot scan p → is_full d p ≡ false)
    → OneByteOf d (ShowsItem d slot scan)
item_one d proper slot scan q shows more = by_shape (conversion_of scan).shape refl
  where
    other : (shape : Shape) → (conversion_of scan).shape ≡ shape → (IsReal shape → ⊥) → OneByteOf d (ShowsItem d slot scan)
    other shape is none = other_one d proper slot scan q shows more (λ real. none (subst IsReal is real))

    by_shape : (shape : Shape) → (conversion_of scan).shape ≡ shape → OneByteOf d (ShowsItem d slot scan)
    by_shape (Float lead) is = float_one d slot scan lead q shows (more q shows) is
    by_shape (Int numeral) is = other (Int numeral) is (λ real. absurd real)
    by_shape (Text lead) is = other (Text lead) is (λ real. absurd real)
    by_shape (Set members) is = other (Set members) is (λ real. absurd real)
    by_shape Chars is = other Chars is (λ real. absurd real)
    by_shape Count is = other Count is (λ real. absurd real)

-- a column that isn't full takes any byte
column_one : (d : Directive) (slot : Option ℕ) (scan : ColumnScan) (q : Stage) → ShowsColumn d slot scan q → is_full d q ≡ false
    → OneByteOf d (ShowsColumn d slot scan)
column_one d slot scan q shows some =
    let c : Conversion = columns.conversion_of scan in
    let column : c.column ≡ true = ap is_column (sym shows.own) ∙ shows.placed in
    record {
      byte = 0;
      is_byte = lit< tt;
      taken = λ p e.
          let low : length e.column < column_width c = elim (cases_lt (length e.column) (column_width c)) [
            | inl low ↦ low
            | inr high ↦ (let own = shows.taken.left in
                let other = e.taken.left in
                let full : is_full d q ≡ true = ap (is_full d) shows.stage ∙ ap (λ x. is_full x (Item shows.column)) shows.own
                ∙ ap (is_full (Conv c)) (sym (stage_begun shows.column shows.begun))
                ∙ column_is_full c column shows.column (omega (arith, own, other, high)) in
                absurd (true≢false (sym full ∙ some)))
          ] in (
            stage_of (e.column ++ 0 ∷ []),
            ap (λ s. stepped d s 0) (e.stage ∙ sym (stage_begun e.column e.begun))
                ∙ ap (λ s. stepped s (stage_of e.column) 0) shows.own ∙ column_takes c column e.column 0 low,
          );
    }

one_byte : (d : Directive) → IsProper d → (current : Phase) (q : Stage) → Shows d current q
    → ((p : Stage) → Shows d current p → is_full d p ≡ false) → OneByte d current
one_byte d proper phase.Skipping q shows more =
    let (b, below, r, is) = can_take_one d Skipping (more Skipping refl) in
    record { byte = b; is_byte = below; taken = λ p e. (r, ap (λ s. stepped d s b) e ∙ is) }
one_byte d proper (phase.Item scan) q shows more = item_one d proper None scan q shows more
one_byte d proper (phase.Text slot scan) q shows more = item_one d proper (Some slot) scan q shows more
one_byte d proper (phase.Column slot scan) q shows more = column_one d slot scan q shows (more q shows)

-- ---- what a scanner has used

-- with no more input the scanner uses what it has used
does_used : (s : Standing) (k : ℕ) (report : RunReport) → s.tally.used ≤ k → Does s k [] report → report.used ≡ s.tally.used
does_used s k report within does = grind (arith, rest_uses_nothing)

module _ (ds : List Directive) (m : ℕ) (s : Standing) (x : List ℕ) (h : After ds m s x) where
  -- what is told of x alone, and of x and more
  pub low : s.tally.used ≤ m
  low = h.low

  pub told : (z : List ℕ) → (report : RunReport) × Does s m z report × TellsWithin ds m (x ++ z) report
  told z = h.same m z low (omega arith)

  pub told_end : (report : RunReport) × Does s m [] report × TellsWithin ds m x report
  told_end = let w = told [] in (w.0, w.1, subst (λ y. TellsWithin ds m y w.0) (append-nil x) w.2)

  -- the scanner has used what the run on x uses
  pub used_is : (r : RunReport) → TellsWithin ds m x r → r.used ≡ s.tally.used
  used_is r t =
      let w = told_end in
      ap (λ (r : RunReport). r.used) (told_is ds h.proper m x r t ∙ sym (told_is ds h.proper m x w.0 w.2)) ∙ does_used s m w.0 low w.1

  -- the report of x and z under the limit is what the scanner does
  does_cut : (z : List ℕ) → Does s m z (cut m ds (x ++ z))
  does_cut z = let w = told z in subst (λ r. Does s m z r) (told_is ds h.proper m (x ++ z) w.0 w.2) w.1

  -- a scanner that hasn't ended is open within the limit
  module _ (e : s.ended ≡ None) where
    waits : Waits s.directives s.passed s.phase
    waits = subst (λ (o : Option Stop). IfNone o (Waits s.directives s.passed s.phase)) e h.settled

    used : s.tally.used ≡ length x
    used = subst (λ (o : Option Stop). IfNone o (s.tally.used ≡ length x)) e h.all

    here : slice_get ds s.passed ≡ Some waits.under_way
    here = ap (λ l. slice_get l s.passed) (sym h.format) ∙ waits.current

    came_so : ComesBy ds s.passed s.phase s.opened s.tally.used x []
    came_so = subst (λ l. ComesBy l s.passed s.phase s.opened s.tally.used x []) h.format
        (subst (λ (o : Option Stop). IfNone o (Comes s x [])) e h.come)

    proper_own : IsProper waits.under_way
    proper_own = proper_at s.directives s.passed waits.under_way (subst AreProper (sym h.format) h.proper) waits.current

    shown : (k : ℕ) (z : List ℕ) (report : RunReport) (does : DoesBy None s.directives s.passed s.phase s.opened s.tally k z report)
        → Shows waits.under_way s.phase does.0
    shown k z report does =
        let both : Shows waits.under_way s.phase does.0 × (s.opened ≡ opened_for waits.under_way does.0) =
        subst (λ rest. ShowsFirst rest s.phase s.opened does.0) (drop_at s.directives s.passed waits.under_way waits.current) does.1 in
        both.0

    one : OneByte waits.under_way s.phase
    one =
        let start = waiting s m [] (cut m ds (x ++ [])) e (does_cut []) in
        one_byte waits.under_way proper_own s.phase start.0 (shown m [] (cut m ds (x ++ [])) start)
        (λ p shows. waits.can_take p proper_own shows)

    next : DoesBy None s.directives s.passed s.phase s.opened s.tally m (one.byte ∷ []) (cut m ds (x ++ one.byte ∷ []))
    next = waiting s m (one.byte ∷ []) (cut m ds (x ++ one.byte ∷ [])) e (does_cut (one.byte ∷ []))

    taken_by : (r : Stage) × (stepped waits.under_way next.0 one.byte ≡ Some r)
    taken_by = one.taken next.0 (shown m (one.byte ∷ []) (cut m ds (x ++ one.byte ∷ [])) next)

    upper : (full ds (x ++ one.byte ∷ [])).used ≤ length x + 1
    upper = omega (arith, uses_within ds 1 nothing_yet (x ++ one.byte ∷ []), length-append x (one.byte ∷ []))

    -- below the limit the byte is taken
    below : s.tally.used < m → (cut m ds (x ++ one.byte ∷ [])).used ≡ length x + 1
    below lt =
        let t : Tally = s.tally in
        ap (λ (r : RunReport). r.used) (next.2 ∙ byte_took m s.directives s.passed waits.under_way next.0 taken_by.0 t one.byte
        waits.current taken_by.1)
        ∙ rest_uses_nothing (Some m) (drop s.passed s.directives) taken_by.0 (s.passed + 1) (with_used (t.used + 1) t)
        (le-ltb m (t.used + 1) (omega arith))
        ∙ ap (λ n. n + 1) used

    -- at the limit it is too much
    at_limit : s.tally.used ≡ m → (cut m ds (x ++ one.byte ∷ [])).status ≡ TooLong
    at_limit same =
        ap (λ (r : RunReport). r.status) (next.2 ∙ byte_past m s.directives s.passed waits.under_way next.0 taken_by.0 s.tally one.byte
        waits.current taken_by.1 same)

    long : (full ds (x ++ one.byte ∷ [])).used ≡ length x + 1
    long = elim (cases_lt m (full ds (x ++ one.byte ∷ [])).used) [
      | inl over ↦ (let top = upper in let here = used in let fits = low in omega (arith, over, top, here, fits))
      | inr fits ↦ (let all : cut m ds (x ++ one.byte ∷ []) ≡ full ds (x ++ one.byte ∷ []) =
          within_limit m ds 1 nothing_yet (x ++ one.byte ∷ []) fits in
          elim (cases_lt s.tally.used m) [
            | inl lt ↦ ap (λ (r : RunReport). r.used) (sym all) ∙ below lt
            | inr ge ↦ absurd (run_not_too_long ds 1 nothing_yet (x ++ one.byte ∷ [])
                (ap (λ (r : RunReport). r.status) (sym all) ∙ at_limit (let fits = low in omega (arith, ge, fits))))
          ])
    ]

    pub waits_open : IsOpen ds x × (length x ≤ m)
    waits_open =
        let here = used in let fits = low in
        ((one.byte, one.is_byte, uses_from ds h.proper (x ++ one.byte ∷ []) (length x + 1) long), omega (arith, here, fits))

    -- under a limit at what it has used, that byte is too much for the directive under way
    at_used : (report : RunReport) × (report ≡ out_of TooLong (s.passed + 1) s.tally)
        × TellsWithin ds (length x) (x ++ one.byte ∷ []) report
    at_used =
        let (report, does, tells) = h.same s.tally.used (one.byte ∷ []) (omega arith) low in
        let own : DoesBy None s.directives s.passed s.phase s.opened s.tally s.tally.used (one.byte ∷ []) report =
        waiting s s.tally.used (one.byte ∷ []) report e does in
        let (r, takes) = one.taken own.0 (shown s.tally.used (one.byte ∷ []) report own) in (
          report,
          own.2 ∙ byte_past s.tally.used s.directives s.passed waits.under_way own.0 r s.tally one.byte waits.current takes refl,
          subst (λ k. TellsWithin ds k (x ++ one.byte ∷ []) report) used tells,
        )

    -- a run that is cut off there has come no less far
    no_sooner : (b : ℕ) (other : List Ran) → IsCut ds (x ++ b ∷ []) (length x) other → s.passed ≤ length other
    no_sooner b other is_cut =
        let (report, does, tells) = h.same s.tally.used (b ∷ []) (omega arith) low in
        let own : DoesBy None s.directives s.passed s.phase s.opened s.tally s.tally.used (b ∷ []) report =
        waiting s s.tally.used (b ∷ []) report e does in
        let here : TellsWithin ds s.tally.used (x ++ b ∷ []) (cut_report TooLong other (length x)) =
        subst (λ k. TellsWithin ds k (x ++ b ∷ []) (cut_report TooLong other (length x))) (sym used) (inr (other, is_cut, refl)) in
        let same : report ≡ cut_report TooLong other (length x) =
        told_is ds h.proper s.tally.used (x ++ b ∷ []) report tells
        ∙ sym (told_is ds h.proper s.tally.used (x ++ b ∷ []) (cut_report TooLong other (length x)) here) in
        let rest : RunReport = run_from (Some s.tally.used) (drop s.passed s.directives) own.0 (s.passed + 1) s.tally (b ∷ []) in
        let long : rest.status ≡ TooLong = ap (λ (r : RunReport). r.status) (sym own.2 ∙ same) in
        let place : rest.at ≡ length other + 1 = ap (λ (r : RunReport). r.at) (sym own.2 ∙ same) in
        omega (arith, place, rest_too_long_at (Some s.tally.used) (drop s.passed s.directives) own.0 (s.passed + 1) s.tally (b ∷ []) long)

    -- so it is cut off in the directive after those that passed
    pub has_come : HasCome ds x s
    has_come = by_case at_used.2
      where
        is : at_used.0 ≡ out_of TooLong (s.passed + 1) s.tally
        is = at_used.1

        by_case : TellsWithin ds (length x) (x ++ one.byte ∷ []) at_used.0 → HasCome ds x s
        by_case (inl w) =
            let all : full ds (x ++ one.byte ∷ []) ≡ at_used.0 = run_told ds h.proper (x ++ one.byte ∷ []) w.0 w.1 ∙ sym w.3 in
            absurd (run_not_too_long ds 1 nothing_yet (x ++ one.byte ∷ []) (ap (λ (r : RunReport). r.status) (all ∙ is)))
        by_case (inr w) =
            let same : out_of TooLong (s.passed + 1) s.tally ≡ cut_report TooLong w.0 (length x) = sym is ∙ w.2 in
            let place : s.passed + 1 ≡ length w.0 + 1 = ap (λ (r : RunReport). r.at) same in
            record {
              before = w.0;
              byte = one.byte;
              is_byte = one.is_byte;
              steps = w.1;
              first = λ b other is_cut. omega (arith, place, no_sooner b other is_cut);
              passed = omega (arith, place);
              assigned_are = ap (λ (r : RunReport). r.assigned) same;
              converted_are = ap (λ (r : RunReport). r.converted) same;
              values_are = ap (λ (r : RunReport). r.values) same;
              used_are = used;
              item_is = item_of_cut ds h.proper s.passed waits.under_way here s.phase s.opened s.tally.used x came_so one.byte
                  (length x) w.0 (omega (arith, place)) w.1;
              text_is = text_of_cut ds h.proper s.passed waits.under_way here s.phase s.opened s.tally.used x came_so one.byte
                  (length x) w.0 (omega (arith, place)) w.1;
            }

  -- an ended one tells the same however the input goes on
  module _ (stop : Stop) (e : s.ended ≡ Some stop) where
    pub ended_is : (z : List ℕ) → cut m ds (x ++ z) ≡ out_of stop.status stop.at s.tally
    ended_is z =
        let does : DoesBy (Some stop) s.directives s.passed s.phase s.opened s.tally m z (cut m ds (x ++ z)) =
        subst (λ o. DoesBy o s.directives s.passed s.phase s.opened s.tally m z (cut m ds (x ++ z))) e (does_cut z) in
        does

    pub cut_here : cut m ds x ≡ out_of stop.status stop.at s.tally
    cut_here = subst (λ y. cut m ds y ≡ out_of stop.status stop.at s.tally) (append-nil x) (ended_is [])

    -- it isn't open within the limit
    stop_closed : IsOpen ds x → length x ≤ m → ⊥
    stop_closed o fits =
        let long : (full ds (x ++ o.0 ∷ [])).used ≡ length x + 1 = uses_is ds h.proper (x ++ o.0 ∷ []) (length x + 1) o.2 in
        let short : (full ds x).used ≤ m = omega (arith, uses_within ds 1 nothing_yet x, fits) in
        elim (cases_lt m (full ds (x ++ o.0 ∷ [])).used) [
          | inl over ↦ run_not_too_long ds 1 nothing_yet x (ap (λ (r : RunReport). r.status)
              (sym (within_limit m ds 1 nothing_yet x short) ∙ cut_here ∙ sym (ended_is (o.0 ∷ [])))
              ∙ over_is_too_long m ds 1 nothing_yet (x ++ o.0 ∷ []) (omega arith) over)
          | inr within ↦ (let same : (full ds (x ++ o.0 ∷ [])).used ≡ s.tally.used =
              ap (λ (r : RunReport). r.used) (sym (within_limit m ds 1 nothing_yet (x ++ o.0 ∷ []) within) ∙ ended_is (o.0 ∷ [])) in
              absurd (omega (arith, same, long, h.within)))
        ]

    -- what it tells is the report, with every ending
    stop_gives : (z : List ℕ) (ending : Ending) → (IsOpen ds (x ++ z) → length (x ++ z) ≤ m → ⊥) → Gives ds m s (x ++ z) ending
    stop_gives z ending closed = record {
      report = out_of stop.status stop.at s.tally;
      is = ap (λ o. report_by o s.tally s.met) e ∙ ap (λ o. report_by (Some stop) s.tally o) h.fed;
      right = inl (within_met open_all ds h.proper m (x ++ z) ending None (out_of stop.status stop.at s.tally)
          (subst (λ r. TellsWithin ds m (x ++ z) r) (ended_is z) (told_exists ds h.proper m (x ++ z))) (λ o. closed o.0 o.1));
    }

  pub ended_closed : IsSome s.ended → IsOpen ds x → length x ≤ m → ⊥
  ended_closed ended o fits = by_case s.ended refl ended
    where
      by_case : (o : Option Stop) → s.ended ≡ o → IsSome o → ⊥
      by_case None e i = absurd cc
      by_case (Some stop) e i = stop_closed stop e o fits

-- an ended one was given whatever follows
pub after_more : (ds : List Directive) (m : ℕ) (s : Standing) (x z : List ℕ) → After ds m s x → IsSome s.ended → After ds m s (x ++ z)
after_more ds m s x z h ended = record {
  format = h.format;
  limit = h.limit;
  proper = h.proper;
  columns = h.columns;
  low = h.low;
  same = λ k y below within.
      let w = h.same k (z ++ y) below within in
      (w.0, ended_does s k (z ++ y) y w.0 ended w.1, subst (λ v. TellsWithin ds k v w.0) (sym (append_assoc x z y)) w.2);
  settled = h.settled;
  all = ended_all s.ended (s.tally.used ≡ length (x ++ z)) ended;
  come = ended_all s.ended (Comes s (x ++ z) []) ended;
  within = grind (arith, length-append);
  fed = h.fed;
}
  where
    ended_all : (o : Option Stop) (P : Type 0) → IsSome o → IfNone o P
    ended_all None P i = absurd cc
    ended_all (Some stop) P i = tt

-- an ended one has the report of every longer input, with every ending
pub ended_gives : (ds : List Directive) (m : ℕ) (s : Standing) (x z : List ℕ) (ending : Ending) → After ds m s x → IsSome s.ended
    → Gives ds m s (x ++ z) ending
ended_gives ds m s x z ending h ended = by_case s.ended refl ended
  where
    by_case : (o : Option Stop) → s.ended ≡ o → IsSome o → Gives ds m s (x ++ z) ending
    by_case None e i = absurd cc
    by_case (Some stop) e i = stop_gives ds m s x h stop e z ending (ended_closed ds m s (x ++ z) (after_more ds m s x z h ended) ended)

-- ---- after a move

none_before : {A : Type 0} (o p : Option A) → (IsSome o → IsSome p) → p ≡ None → o ≡ None
none_before o p h e = grind arith

-- after a piece was pushed
pub after_push : (ds : List Directive) (m : ℕ) (old new : Standing) (x piece : List ℕ) (n : ℕ) → After ds m old x
    → new.tally.used ≤ new.limit
    → (AreSound old.directives → (z : List ℕ) → Follows new old z (piece ++ z)) → new.tally.used ≡ old.tally.used + n → n ≤ length piece
    → IfNone new.ended (n ≡ length piece)
    → (IsSome old.ended → IsSome new.ended) → Keeps new old → (IsSettled old → IsSettled new)
    → (AreSound old.directives → Advances new old piece n) → After ds m new (x ++ piece)
after_push ds m old new x piece n h low follows used within all stays keeps settled advances = record {
  format = keeps.directives ∙ h.format;
  limit = keeps.limit ∙ h.limit;
  proper = h.proper;
  columns = h.columns;
  low = grind (arith, low);
  same = λ k z below fits.
      let w = h.same k (piece ++ z) (omega (arith, below, used)) fits in
      let limit = h.limit in (
        w.0,
        follows (subst AreSound (sym h.format) (h.proper, h.columns)) z k w.0 below (omega (arith, fits, limit)) w.1,
        subst (λ v. TellsWithin ds k v w.0) (sym (append_assoc x piece z)) w.2,
      );
  settled = settled h.settled;
  all = go new.ended refl;
  come = comes new.ended refl;
  within = grind (arith, length-append);
  fed = keeps.met ∙ h.fed;
}
  where
    comes : (o : Option Stop) → new.ended ≡ o → IfNone o (Comes new (x ++ piece) [])
    comes (Some stop) e = tt
    comes None e =
        let waited : old.ended ≡ None = none_before old.ended new.ended stays e in
        let here : Comes old x [] = subst (λ (o : Option Stop). IfNone o (Comes old x [])) waited h.come in
        let whole : n ≡ length piece = subst (λ (o : Option Stop). IfNone o (n ≡ length piece)) e all in
        came new old x piece n (advances (subst AreSound (sym h.format) (h.proper, h.columns))) whole here e

    go : (o : Option Stop) → new.ended ≡ o → IfNone o (new.tally.used ≡ length (x ++ piece))
    go o e = grind (arith, none_before, length-append)

-- a waiting one that was run out has the report of its input with its ending
pub run_out_gives : (ds : List Directive) (m : ℕ) (old new : Standing) (x : List ℕ) (ending : Ending) → After ds m old x → old.ended ≡ None
    → Follows new old [] [] → new.tally.used ≡ old.tally.used → IsSome new.ended → new.met ≡ Some ending → Gives ds m new x ending
run_out_gives ds m old new x ending h waiting follows used ended met = by_case new.ended refl ended
  where
    run : (report : RunReport) × Does old m [] report × TellsWithin ds m x report
    run = told_end ds m old x h

    by_case : (o : Option Stop) → new.ended ≡ o → IsSome o → Gives ds m new x ending
    by_case None e i = absurd cc
    by_case (Some stop) e i =
        let fits = low ds m old x h in
        let limit = h.limit in
        let is : run.0 ≡ out_of stop.status stop.at new.tally =
        subst (λ o. DoesBy o new.directives new.passed new.phase new.opened new.tally m [] run.0) e
        (follows m run.0 (omega (arith, fits, used)) (omega (arith, limit)) run.1) in
        record {
          report = record (out_of stop.status stop.at new.tally) { met = Some ending };
          is = ap (λ o. report_by o new.tally new.met) e ∙ ap (λ o. report_by (Some stop) new.tally o) met;
          right = inl (within_met open_all ds h.proper m x ending (Some ending) (out_of stop.status stop.at new.tally)
              (subst (λ r. TellsWithin ds m x r) is run.2) (waits_open ds m old x h waiting, refl));
        }

-- one that was given nothing yet
pub after_nothing : (ds : List Directive) (m : ℕ) (s : Standing) → s.directives ≡ ds → s.limit ≡ m → AreSound ds
    → ((k : ℕ) (z : List ℕ) → k ≤ m → Does s k z (run_of (Some k) ds 1 nothing_yet z)) → IsSettled s → s.tally.used ≡ 0 → s.met ≡ None
    → (s.ended ≡ None → Comes s [] [])
    → After ds m s []
after_nothing ds m s format limit sound does settled used met come = record {
  format = format;
  limit = limit;
  proper = sound.0;
  columns = sound.1;
  low = omega (arith, used);
  same = λ k z below within. (run_of (Some k) ds 1 nothing_yet z, does k z within, told_exists ds sound.0 k z);
  settled = settled;
  all = none_all s.ended;
  come = none_come s.ended refl;
  within = omega (arith, used);
  fed = met;
}
  where
    none_come : (o : Option Stop) → s.ended ≡ o → IfNone o (Comes s [] [])
    none_come None e = come e
    none_come (Some stop) e = tt

    none_all : (o : Option Stop) → IfNone o (s.tally.used ≡ 0)
    none_all o = grind arith

-- ---- what is told of an ended one

pub ended_gives_own : (ds : List Directive) (m : ℕ) (s : Standing) (x : List ℕ) (ending : Ending) → After ds m s x → IsSome s.ended
    → Gives ds m s x ending
ended_gives_own ds m s x ending h ended = subst (λ y. Gives ds m s y ending) (append-nil x) (ended_gives ds m s x [] ending h ended)

pub gives_report : (ds : List Directive) (m : ℕ) (s : Standing) (x : List ℕ) (ending : Ending) (stop : Stop) → Gives ds m s x ending
    → s.ended ≡ Some stop
    → RunTold ds m x ending (record (out_of stop.status stop.at s.tally) { met = s.met })
gives_report ds m s x ending stop h e =
    subst (RunTold ds m x ending) (sym (some_is _ _ (ap (λ o. report_by o s.tally s.met) (sym e) ∙ h.is))) h.right

-- the outcome of an ended one, with its values, is its report
pub told_exactly : (s : Standing) (stop : Stop) (r : RunReport) → s.ended ≡ Some stop
    → r ≡ record (out_of stop.status stop.at s.tally) { met = s.met } → Some r ≡ report_of s
told_exactly s stop r e is = ap Some is ∙ sym (ap (λ o. report_by o s.tally s.met) e)

-- where no storing was refused it is that of the run under the limit
pub after_report : (ds : List Directive) (m : ℕ) (s : Standing) (x : List ℕ) (ending : Ending) (stop : Stop) → After ds m s x
    → s.ended ≡ Some stop
    → RunWithin ds m x ending (record (out_of stop.status stop.at s.tally) { met = s.met })
after_report ds m s x ending stop h e =
    subst (λ o. RunWithin ds m x ending (record (out_of stop.status stop.at s.tally) { met = o })) (sym h.fed)
    (within_met open_all ds h.proper m x ending None (out_of stop.status stop.at s.tally)
    (subst (λ r. TellsWithin ds m x r) (cut_here ds m s x h stop e) (told_exists ds h.proper m x))
    (λ o. ended_closed ds m s x h (ap is_some e) o.0 o.1))

pub none_is : {A : Type 0} (o : Option A) → is_some o ≡ false → o ≡ None
none_is o h = grind arith

pub none_of : (s : Standing) → is_some s.ended ≡ false → s.ended ≡ None
none_of s = none_is s.ended

-- the report of what it was given says how many bytes it has used
pub within_used : (ds : List Directive) (m : ℕ) (s : Standing) (x : List ℕ) (ending : Ending) (r : RunReport) → After ds m s x
    → RunWithin ds m x ending r → r.used ≡ s.tally.used
within_used ds m s x ending r h run = used_is ds m s x h (record r { met = None }) (met_within open_all ds h.proper m x ending r run).0

-- before the first byte
pub start_does : (own ds : List Directive) (opened : Option Opened) (t : Tally) (k : ℕ) (z : List ℕ) → own ≡ ds → opened ≡ None
    → t ≡ nothing_yet
    → DoesBy None own 0 phase.Skipping opened t k z (run_of (Some k) ds 1 nothing_yet z)
start_does own ds opened t k z same none nothing = grind arith

pub tally_nothing : (t : code.Tally) (values : List Assigned) → t.used ≡ 0 → t.assigned ≡ 0 → t.converted ≡ 0 → values ≡ []
    → tally_of t values ≡ nothing_yet
tally_nothing t values a b c d = rw (a, b, c, d) refl
