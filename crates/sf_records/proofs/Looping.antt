-- The loop over the records of a source: how it goes on, and what holds where it stops.
use Rattle.std.proofs.Common.{◌≡◌, ℕ, ◌+◌, ◌<◌, ◌≤◌, Bool, true, false, cond, List, [], ◌∷◌, ◌++◌, length, take, drop, Option, Some, ◌⊎◌}
use Rattle.std.proofs.Common.{inl, inr, refl, sym, ap, subst, ◌∙◌, arith, append_assoc, append-nil, length-append, true≢false}
use Rattle.std.proofs.Common.{None}
use Rattle.std.proofs.lemmas.List.{take-append-drop, length-take-le}
use Rattle.std.proofs.lemmas.Grind.{flat_map-append}
use Rattle.std.proofs.Math.Seq.{take-append-add, drop-append-add, drop-append_seam}
use Rattle.std.specs.Prelude.{IsSome}
use Rattle.std.specs.Io.KnownBytes.{Appends}
use Rattle.sf_format.specs.declared.directive.Directive.{Directive}
use Rattle.sf_format.specs.Proper.{AreProper}
use Rattle.sf_format.specs.Widths.{width_sum}
use Rattle.sf_run.specs.outcome.Ending.{Ending}
use Rattle.sf_run.specs.outcome.Ending.TheVariants.{End, Fault}
use Rattle.sf_run.specs.outcome.Status.TheVariants.{Done}
use Rattle.sf_run.specs.Runs.{RunReport}
use Rattle.sf_run.specs.Limits.{RunWithin, RunTold}
use Rattle.sf_run.specs.Stopping.{is_memory_status}
use Rattle.sf_run.specs.Laws.{EachHasOneReport}
use Rattle.sf_read.specs.source.Ahead.{Ahead, input_of}
use Rattle.sf_read.specs.source.Counts.{counted_on}
use Rattle.sf_read.specs.Scan.{Scan, MayFollow, is_fault}
use Rattle.sf_read.proofs.Ended.{told_within}
use Rattle.sf_print.proofs.Appending.{Appends-none, Appends-then, Appends-same}
use Rattle.sf_records.specs.declared.turn.Turn.{Turn}
use Rattle.sf_records.specs.declared.turn.Turn.TheVariants.{Goes, Ends, Cut, Failed, Stalled, Unfit, RanOut}
use Rattle.sf_records.specs.declared.end.ToolEnd.{ToolEnd}
use Rattle.sf_records.specs.declared.end.ToolFault.TheVariants as faults
use Rattle.sf_records.specs.Judging.{TakesPart, Interrupts, Concludes}
use Rattle.sf_records.specs.Turns.{writes}
use Rattle.sf_records.specs.Works.{Work, turn_in, texts, last_text}
use Rattle.sf_records.specs.Records.{Passed, EndsWith, IsCutShort, IsRefusedBehind, Loops, uses, ended, end_by, input_by, ending_by}
use Rattle.sf_records.specs.Records.{most_records}
use Rattle.sf_records.proofs.Passing.{is_ran_out, not_ran_out, ran_out_status, within_fine, told_refused, unbounded_by, goes_is_no_fault}
use Rattle.sf_records.proofs.Passing.{written_is_no_memory, passed_more, uses_append}
use Rattle.sf_records.proofs.OneEnd.{has_end, has_end_after, joined}

-- After n records of the input t. What they say rests on the bytes that were read alone, so that it stands also where the
-- source fails later. The sink held the bytes `was`, and now `is`.
pub record Going {S : Type 0} (w : Work) (to_come : S → Option (List ℕ)) (ds : List Directive) (m : ℕ) (t : List ℕ) (now : Ahead S)
    (was is : Option (List ℕ)) (failures failures' : ℕ) (n : ℕ) : Type 0 where
  pub front : List RunReport
  pub count : length front ≡ n
  pub used_up : List ℕ
  pub left : List ℕ
  pub input : input_of to_come now ≡ Some left
  pub parts : t ≡ used_up ++ left
  pub used : length used_up ≡ uses front
  pub whole : Passed w ds m t End front left
  pub passed : (z : List ℕ) (ending : Ending) → MayFollow now z ending
      → Passed w ds m (used_up ++ (now.held ++ z)) ending front (now.held ++ z)
  pub appends : Appends was is (texts w front)
  pub no_failure : failures' ≡ failures

pub begins : {S : Type 0} (w : Work) (to_come : S → Option (List ℕ)) (ds : List Directive) (m : ℕ) (t : List ℕ) (now : Ahead S)
    (was : Option (List ℕ)) (failures : ℕ)
    → input_of to_come now ≡ Some t → Going w to_come ds m t now was was failures failures 0
begins w to_come ds m t now was failures e = record {
  front = [];
  count = refl;
  used_up = [];
  left = t;
  input = e;
  parts = refl;
  used = refl;
  whole = refl;
  passed = λ z ending follows. refl;
  appends = Appends-none was;
  no_failure = refl;
}

-- a lookahead that is as before
pub same_ahead : {S : Type 0} {w : Work} {to_come : S → Option (List ℕ)} {ds : List Directive} {m : ℕ} {t : List ℕ}
    {now new : Ahead S} {was is : Option (List ℕ)} {failures n : ℕ}
    (failures_of : S → ℕ) → new ≡ now → Going w to_come ds m t now was is failures (failures_of now.source) n
    → Going w to_come ds m t new was is failures (failures_of new.source) n
same_ahead failures_of e g = rw e g

-- the loop goes on after a run that is Done, met nothing and used a byte, and whose record fits
pub plain_goes : (w : Work) (ds : List Directive) (r : RunReport) → w.fits r ≡ true → r.status ≡ Done → r.met ≡ None → 0 < r.used
    → turn_in w ds r ≡ Goes
plain_goes w ds r fits done met some = grind arith

-- a scan whose report is known by another name
pub scan_as : {S : Type 0} {to_come : S → Option (List ℕ)} {ds : List Directive} {m : ℕ} {t : List ℕ} {old new : Ahead S}
    {r named : RunReport} → named ≡ r → Scan to_come ds m t old new r → Scan to_come ds m t old new named
scan_as e scan = rw e scan

-- ---- lists

-- the parts of the input before and after a record
cut_front : (t before left : List ℕ) (n u : ℕ) → t ≡ before ++ left → length before ≡ n → take (n + u) t ≡ before ++ take u left
cut_front t before left n u e l = rw (e, ← l) (take-append-add before left u)

cut_rest : (t before left : List ℕ) (n u : ℕ) → t ≡ before ++ left → length before ≡ n → drop (n + u) t ≡ drop u left
cut_rest t before left n u e l = rw (e, ← l) (drop-append-add before left u)

regroup : (before a h z : List ℕ) → before ++ (a ++ h ++ z) ≡ before ++ a ++ (h ++ z)
regroup before a h z = ap (λ (y : List ℕ). before ++ y) (append_assoc a h z) ∙ sym (append_assoc before a (h ++ z))

drop_front : (a h z : List ℕ) (u : ℕ) → length a ≡ u → drop u (a ++ h ++ z) ≡ h ++ z
drop_front a h z u e = rw (← e, append_assoc) (drop-append_seam a (h ++ z))

-- ---- where the loop is ended before

-- memory was refused after the records that were passed
short_of_memory : (one : EachHasOneReport) (w : Work) (ds : List Directive) → AreProper ds
    → (m : ℕ) (x left : List ℕ) (ending : Ending) (front : List RunReport) (spent : ℕ) (answer : ToolEnd)
    → length front ≤ most_records → Passed w ds m x ending front left → IsRefusedBehind front w ds m left ending spent
    → answer ≡ ended (length front) (Some faults.Memory)
    → (output : List ℕ) × (used : ℕ) × (end : ToolEnd) × EndsWith w ds m x ending output used end
    × ((missing : List ℕ) × (output ≡ texts w front ++ missing))
    × IsCutShort w ds m x ending (texts w front) (uses front + spent) answer
short_of_memory one w ds proper m x left ending front spent answer few passed refused is =
    let h = has_end one w ds proper m ending (0 + length front) (omega (arith, few)) left in (
      texts w front ++ h.more,
      uses front + h.used,
      h.end,
      joined 0 w ds m x left ending front h.more h.used h.end passed h.is,
      (h.more, refl),
      record {
        before = front;
        left = left;
        part = [];
        spent = spent;
        passed = passed;
        written_is = sym (append-nil (texts w front));
        consumed_is = refl;
        why = inr (is, refl, refused);
      },
    )

-- the sink failed within the line of the next run
cut_in_line : (one : EachHasOneReport) (w : Work) (ds : List Directive) → AreProper ds
    → (m : ℕ) (x left : List ℕ) (ending : Ending) (front : List RunReport) (answer : ToolEnd)
    → length front < most_records → Passed w ds m x ending front left → (next : RunReport) → RunWithin ds m left ending next
    → writes (turn_in w ds next) ≡ true
    → (part rest : List ℕ) (missing : ℕ) → w.text next ≡ part ++ missing ∷ rest → answer ≡ ended (length front) (Some faults.Write)
    → (output : List ℕ) × (used : ℕ) × (end : ToolEnd) × EndsWith w ds m x ending output used end
    × ((missing : List ℕ) × (output ≡ texts w front ++ part ++ missing))
    × IsCutShort w ds m x ending (texts w front ++ part) (uses front + next.used) answer
cut_in_line one w ds proper m x left ending front answer few passed next ran due part rest missing begun is =
    let h = has_end_after one w ds proper m ending (0 + length front) (omega (arith, few)) left next ran in
    let text : last_text w ds next ≡ part ++ missing ∷ rest = ap (λ b. cond b (w.text next) []) due ∙ begun in (
      texts w front ++ (last_text w ds next ++ h.more),
      uses front + h.used,
      h.end,
      joined 0 w ds m x left ending front (last_text w ds next ++ h.more) h.used h.end passed h.is,
      (
        missing ∷ rest ++ h.more,
        ap (λ (t : List ℕ). texts w front ++ (t ++ h.more)) text
            ∙ ap (λ (t : List ℕ). texts w front ++ t) (append_assoc part (missing ∷ rest) h.more)
            ∙ sym (append_assoc (texts w front) part (missing ∷ rest ++ h.more)),
      ),
      record {
        before = front;
        left = left;
        part = part;
        spent = next.used;
        passed = passed;
        written_is = refl;
        consumed_is = refl;
        why = inl (is, record { next = next; ran = ran; spent_is = refl; due = due; missing = missing; rest = rest; begun = begun });
      },
    )

-- ---- the loop

-- no store could be had
pub no_memory : {S : Type 0} (one : EachHasOneReport) (w : Work) (to_come : S → Option (List ℕ)) (ds : List Directive) → AreProper ds
    → (m : ℕ) (t : List ℕ) (now : Ahead S) (was : Option (List ℕ)) (failures : ℕ)
    → input_of to_come now ≡ Some t → (answer : ToolEnd) → answer ≡ ended 0 (Some faults.Memory)
    → Loops w to_come ds m t now failures failures was was answer
no_memory one w to_come ds proper m t now was failures input answer is_end =
    let s = short_of_memory one w ds proper m t t End [] 0 answer (omega arith) refl (inr (inr (refl, refl))) is_end in
    record {
      failed = false;
      failures_are = refl;
      nothing_held = λ f. absurd (true≢false (sym f));
      consumed = 0;
      rest = input;
      output = s.0;
      used = s.1;
      end = s.2;
      is = s.3;
      written = [];
      appends = Appends-none was;
      told = inr (s.4, s.5);
    }

module _ {S : Type 0} {w : Work} {to_come : S → Option (List ℕ)} {ds : List Directive} {m : ℕ} {t : List ℕ} {now : Ahead S}
    {was is : Option (List ℕ)} {failures mid n : ℕ}
    (one : EachHasOneReport) (proper : AreProper ds) (g : Going w to_come ds m t now was is failures mid n) where
  -- there were as many records as there may be
  pub too_many : n ≡ most_records → (answer : ToolEnd) → answer ≡ ended most_records (Some faults.TooMany)
      → Loops w to_come ds m t now failures mid was is answer
  too_many full answer is_end = record {
    failed = false;
    failures_are = g.no_failure;
    nothing_held = λ f. absurd (true≢false (sym f));
    consumed = uses g.front + 0;
    rest = g.input ∙ ap (λ (y : List ℕ). Some y) (sym (cut_rest t g.used_up g.left (uses g.front) 0 g.parts g.used));
    output = texts w g.front;
    used = uses g.front + 0;
    end = answer;
    is = record {
      written = g.front;
      left = g.left;
      tail = [];
      spent = 0;
      passed = g.whole;
      stops = inl (record {
        full = omega (arith, full, g.count);
        nothing = refl;
        unused = refl;
        end_is = is_end
            ∙ ap (λ (k : ℕ). ended k (Some faults.TooMany)) {x = most_records} {y = 0 + length g.front} (omega (arith, full, g.count));
      });
      output_is = sym (append-nil (texts w g.front));
      used_is = refl;
    };
    written = texts w g.front;
    appends = g.appends;
    told = inl (refl, refl, refl);
  }

  module _ {new : Ahead S} {after : ℕ} (r : RunReport) (scan : Scan to_come ds m g.left now new r)
      (stays : now.at_end ≡ true → new.at_end ≡ true)
      (count : after ≡ cond (is_fault r.met) (counted_on mid) mid) (bounded : IsSome (width_sum ds)
      → is_memory_status r.status ≡ false) where
    -- the records before, on an input that goes on as this record's
    on_input : (z : List ℕ) (ending : Ending) → MayFollow new z ending
        → Passed w ds m (g.used_up ++ (take r.used g.left ++ new.held ++ z)) ending g.front (take r.used g.left ++ new.held ++ z)
    on_input z ending follows =
        let u : List ℕ = scan.read.0 in
        let all : now.held ++ (u ++ z) ≡ take r.used g.left ++ new.held ++ z = sym (append_assoc now.held u z)
        ∙ ap (λ (y : List ℕ). y ++ z) (sym scan.read.1) in
        let h : Passed w ds m (g.used_up ++ (now.held ++ (u ++ z))) ending g.front (now.held ++ (u ++ z)) =
        g.passed (u ++ z) ending (λ e. (rw (scan.read.2 e, (follows (stays e)).0) refl, (follows (stays e)).1)) in
        subst (λ (y : List ℕ). Passed w ds m (g.used_up ++ y) ending g.front y) all h

    -- this run, on the input as far as it goes
    record Reached (b : Bool) : Type 0 where
      pub left : List ℕ
      pub passed : Passed w ds m (input_by b (uses g.front + r.used) t) (ending_by b) g.front left
      pub ran : is_memory_status r.status ≡ false → RunWithin ds m left (ending_by b) r
      pub told : b ≡ false → RunTold ds m left End r

    reaches : (b : Bool) → is_fault r.met ≡ b → Reached b
    reaches false f = record {
      left = g.left;
      passed = g.whole;
      ran =
          λ fine. told_within ds m g.left End r (scan.whole f) fine;
      told = λ e. scan.whole f;
    }
    reaches true f =
        let h = on_input [] Fault (λ e. absurd (let k = (scan.nothing_held f).1 in cc)) in
        let bytes : take r.used g.left ++ new.held ++ [] ≡ take r.used g.left = rw ((scan.nothing_held f).0, append-nil, append-nil) refl in
        let k : Passed w ds m (g.used_up ++ take r.used g.left) Fault g.front (take r.used g.left) =
        subst (λ (y : List ℕ). Passed w ds m (g.used_up ++ y) Fault g.front y) bytes h in
        record {
          left = take r.used g.left;
          passed = rw (cut_front t g.used_up g.left (uses g.front) r.used g.parts g.used) k;
          ran = λ fine. scan.cut f;
          told = λ e. absurd (true≢false e);
        }

    reached : Reached (is_fault r.met)
    reached = reaches (is_fault r.met) refl

    rest_is : input_of to_come new ≡ Some (drop (uses g.front + r.used) t)
    rest_is = scan.rest ∙ ap (λ (y : List ℕ). Some y) (sym (cut_rest t g.used_up g.left (uses g.front) r.used g.parts g.used))

    failures_are : after ≡ cond (is_fault r.met) (counted_on failures) failures
    failures_are = count ∙ ap (λ (k : ℕ). cond (is_fault r.met) (counted_on k) k) g.no_failure

    pub next : (wrote : Option (List ℕ)) → turn_in w ds r ≡ Goes → Appends is wrote (w.text r)
        → Going w to_come ds m t new was wrote failures after (n + 1)
    next wrote goes wrote_is =
        let f : is_fault r.met ≡ false = goes_is_no_fault w ds r goes in
        let fine : is_memory_status r.status ≡ false = not_ran_out w ds r Goes goes refl in
        let took : length (take r.used g.left) ≡ r.used = length-take-le r.used g.left scan.within in
        record {
          front = g.front ++ r ∷ [];
          count = omega (arith, g.count, length-append g.front (r ∷ []));
          used_up = g.used_up ++ take r.used g.left;
          left = drop r.used g.left;
          input = scan.rest;
          parts = g.parts ∙ rw (append_assoc, take-append-drop) refl;
          used = omega (arith, length-append g.used_up (take r.used g.left), took, g.used, uses_append g.front (r ∷ []));
          whole = passed_more w ds m End t g.left g.front r g.whole (told_within ds m g.left End r (scan.whole f) fine) goes;
          passed = λ z ending follows.
              let seen = told_within ds m _ ending r (scan.seen f z ending follows) fine in
              let h = passed_more w ds m ending _ _ g.front r (on_input z ending follows) seen goes in
              rw (← regroup g.used_up (take r.used g.left) new.held z, ← drop_front (take r.used g.left) new.held z r.used took) h;
          appends = Appends-same _ _ _ _ (ap (λ (y : List ℕ). texts w g.front ++ y) (sym (append-nil (w.text r)))
              ∙ sym (flat_map-append w.text g.front (r ∷ []))) (Appends-then _ _ _ _ _ g.appends wrote_is);
          no_failure = count ∙ rw f g.no_failure;
        }

    pub next_front : (wrote : Option (List ℕ)) (goes : turn_in w ds r ≡ Goes) (wrote_is : Appends is wrote (w.text r))
        → (next wrote goes wrote_is).front ≡ g.front ++ r ∷ []
    unfolding next
    next_front wrote goes wrote_is = refl

    -- where the storing of a byte was refused, the source has not failed
    refused_by : (b : Bool) → is_fault r.met ≡ b → (at : Reached b) → is_memory_status r.status ≡ true
        → IsRefusedBehind g.front w ds m at.left (ending_by b) r.used
    refused_by false f at out = inr (inl (record {
      unbounded = unbounded_by (width_sum ds) (is_memory_status r.status) bounded out;
      next = r;
      ran = told_refused ds proper m at.left End r (at.told refl) out;
      spent_is = refl;
    }))
    refused_by true f at out = absurd (true≢false (sym out ∙ within_fine ds proper m (take r.used g.left) Fault r (scan.cut f)))

    unstored : is_memory_status r.status ≡ true → IsRefusedBehind g.front w ds m reached.left (ending_by (is_fault r.met)) r.used
    unstored out = refused_by (is_fault r.met) refl reached out

    unmade : writes (turn_in w ds r) ≡ true → IsRefusedBehind g.front w ds m reached.left (ending_by (is_fault r.met)) r.used
    unmade due = inl (record {
      next = r;
      ran = reached.ran (not_ran_out w ds r (turn_in w ds r) refl
          (written_is_no_memory (turn_in w ds r) due));
      spent_is = refl;
      due = due;
    })

    -- memory was refused, for a text or for the record
    ran_out : n ≤ most_records → (answer : ToolEnd) (wrote : Option (List ℕ))
        → IsRefusedBehind g.front w ds m reached.left (ending_by (is_fault r.met)) r.used
        → Appends is wrote [] → answer ≡ ended n (Some faults.Memory) → Loops w to_come ds m t new failures after was wrote answer
    ran_out few answer wrote refused nothing is_end =
        let at = reached in
        let s = short_of_memory one w ds proper m (input_by (is_fault r.met) (uses g.front + r.used) t) at.left
        (ending_by (is_fault r.met)) g.front r.used answer (omega (arith, few, g.count)) at.passed refused
        (is_end ∙ ap (λ (k : ℕ). ended k (Some faults.Memory)) (sym g.count)) in
        record {
          failed = is_fault r.met;
          failures_are = failures_are;
          nothing_held = λ f. (scan.nothing_held f).0;
          consumed = uses g.front + r.used;
          rest = rest_is;
          output = s.0;
          used = s.1;
          end = s.2;
          is = s.3;
          written = texts w g.front;
          appends = Appends-same _ _ _ _ (append-nil (texts w g.front)) (Appends-then _ _ _ _ _ g.appends nothing);
          told = inr (s.4, s.5);
        }

    -- the sink failed within the line
    pub unwritten : n < most_records → (answer : ToolEnd) (wrote : Option (List ℕ)) → writes (turn_in w ds r) ≡ true
        → is_ran_out (turn_in w ds r) ≡ false
        → TakesPart is wrote (w.text r) → answer ≡ ended n (Some faults.Write) → Loops w to_come ds m t new failures after was wrote answer
    unwritten few answer wrote due fine (part, missing, rest, begun, took) is_end =
        let at = reached in
        let s = cut_in_line one w ds proper m (input_by (is_fault r.met) (uses g.front + r.used) t) at.left
        (ending_by (is_fault r.met)) g.front answer (omega (arith, few, g.count)) at.passed
        r (at.ran (not_ran_out w ds r (turn_in w ds r) refl fine)) due part rest missing begun
        (is_end ∙ ap (λ (k : ℕ). ended k (Some faults.Write)) (sym g.count)) in
        record {
          failed = is_fault r.met;
          failures_are = failures_are;
          nothing_held = λ f. (scan.nothing_held f).0;
          consumed = uses g.front + r.used;
          rest = rest_is;
          output = s.0;
          used = s.1;
          end = s.2;
          is = s.3;
          written = texts w g.front ++ part;
          appends = Appends-then _ _ _ _ _ g.appends took;
          told = inr (s.4, s.5);
        }

    -- the loop stops here
    pub stopped : n < most_records → (answer : ToolEnd) (wrote : Option (List ℕ)) → (turn_in w ds r ≡ Goes → ⊥)
        → is_ran_out (turn_in w ds r) ≡ false
        → Appends is wrote (last_text w ds r) → answer ≡ end_by (turn_in w ds r) n r
        → Loops w to_come ds m t new failures after was wrote answer
    stopped few answer wrote stops fine took is_end =
        let at = reached in
        record {
          failed = is_fault r.met;
          failures_are = failures_are;
          nothing_held = λ f. (scan.nothing_held f).0;
          consumed = uses g.front + r.used;
          rest = rest_is;
          output = texts w g.front ++ last_text w ds r;
          used = uses g.front + r.used;
          end = answer;
          is = record {
            written = g.front;
            left = at.left;
            tail = last_text w ds r;
            spent = r.used;
            passed = at.passed;
            stops = inr (record {
              few = omega (arith, few, g.count);
              last = r;
              ran = at.ran (not_ran_out w ds r (turn_in w ds r) refl fine);
              stops = stops;
              tail_is = refl;
              spent_is = refl;
              end_is = is_end ∙ ap (λ (k : ℕ). end_by (turn_in w ds r) k r) {x = n} {y = 0 + length g.front} (omega (arith, g.count));
            });
            output_is = refl;
            used_is = refl;
          };
          written = texts w g.front ++ last_text w ds r;
          appends = Appends-then _ _ _ _ _ g.appends took;
          told = inl (refl, refl, refl);
        }

    -- the loop stops, in whichever way
    pub ends_at : n < most_records → (answer : ToolEnd) (wrote : Option (List ℕ))
        → Concludes n (w.text r) (turn_in w ds r) r is wrote answer ⊎ Interrupts n (w.text r) (turn_in w ds r) is wrote answer
        → Loops w to_come ds m t new failures after was wrote answer
    ends_at few answer wrote (inl (stops, took, is_end)) = by (turn_in w ds r) refl
      where
        by : (turn : Turn) → turn_in w ds r ≡ turn → Loops w to_come ds m t new failures after was wrote answer
        by Goes e = absurd (stops e)
        by RanOut e =
            ran_out (omega (arith, few)) answer wrote (unstored (ran_out_status w ds r e))
            (subst (λ (text : List ℕ). Appends is wrote text) (ap (λ v. cond (writes v) (w.text r) []) e) took)
            (is_end ∙ ap (λ v. end_by v n r) e)
        by Ends e = stopped few answer wrote stops (ap is_ran_out e) took is_end
        by (Cut written) e = stopped few answer wrote stops (ap is_ran_out e) took is_end
        by Failed e = stopped few answer wrote stops (ap is_ran_out e) took is_end
        by Unfit e = stopped few answer wrote stops (ap is_ran_out e) took is_end
        by Stalled e = stopped few answer wrote stops (ap is_ran_out e) took is_end
    ends_at few answer wrote (inr (due, inl (is_end, took))) = unwritten few answer wrote due (written_is_no_memory (turn_in w ds r) due)
        took is_end
    ends_at few answer wrote (inr (due, inr (is_end, nothing))) = ran_out (omega (arith, few)) answer wrote (unmade due) nothing is_end
