-- The loop over each input ends in one way.
use Rattle.std.proofs.Common.{◌≡◌, ℕ, zero, suc, ◌+◌, ◌-◌, ◌<◌, ◌≤◌, Some, List, [], ◌∷◌, ◌++◌, length, drop, cond, ◌⊎◌, inl, inr, refl}
use Rattle.std.proofs.Common.{sym, ap, subst, ◌∙◌, arith, append_assoc, append-nil, length-append}
use Rattle.std.proofs.lemmas.Grind.{flat_map-append}
use Rattle.sf_format.specs.declared.directive.Directive.{Directive}
use Rattle.sf_format.specs.Proper.{AreProper}
use Rattle.sf_run.specs.outcome.Ending.{Ending}
use Rattle.sf_run.specs.Runs.{RunReport}
use Rattle.sf_run.specs.Limits.{RunWithin}
use Rattle.sf_run.specs.Laws.{EachHasOneReport}
use Rattle.sf_records.specs.declared.turn.Turn.TheVariants.{Goes}
use Rattle.sf_records.specs.declared.end.ToolEnd.{ToolEnd}
use Rattle.sf_records.specs.declared.end.ToolFault.TheVariants as faults
use Rattle.sf_records.specs.Turns.{writes}
use Rattle.sf_records.specs.Works.{Work, turn_in, texts, last_text}
use Rattle.sf_records.specs.Records.{Passed, IsFull, StopsAt, EndsFrom, EndsWith, uses, ended, end_by, most_records}
use Rattle.sf_records.specs.Laws.{EachHasOneEnd, HasOneEnd}
use Rattle.sf_records.proofs.Passing.{goes_or_not, passed_append, uses_append}

-- what comes after the records that were passed
abbrev Tail : Work → List Directive → ℕ → List ℕ → Ending → ℕ → List ℕ → ℕ → ToolEnd → Type 0
Tail w ds m y ending n tail spent end = IsFull n tail spent end ⊎ StopsAt w ds m y ending n tail spent end

-- records before, and then the rest of the loop
pub joined : (n : ℕ) (w : Work) (ds : List Directive) (m : ℕ) (x left : List ℕ) (ending : Ending) (front : List RunReport)
    (output : List ℕ) (used : ℕ) (end : ToolEnd)
    → Passed w ds m x ending front left → EndsFrom (n + length front) w ds m left ending output used end
    → EndsFrom n w ds m x ending (texts w front ++ output) (uses front + used) end
joined n w ds m x left ending front output used end passed h = record {
  written = front ++ h.written;
  left = h.left;
  tail = h.tail;
  spent = h.spent;
  passed = passed_append w ds m ending x left h.left front h.written passed h.passed;
  stops = subst (λ (k : ℕ). Tail w ds m h.left ending k h.tail h.spent end) {x = n + length front + length h.written}
      {y = n + length (front ++ h.written)} (omega (arith, length-append front h.written)) h.stops;
  output_is = ap (λ (t : List ℕ). texts w front ++ t) h.output_is ∙ sym (append_assoc (texts w front) (texts w h.written) h.tail)
      ∙ ap (λ (t : List ℕ). t ++ h.tail) (sym (flat_map-append w.text front h.written));
  used_is = omega (arith, h.used_is, uses_append front h.written);
}

-- an end of the loop from a record on, whose output begins with this text
pub record HasEnd (n : ℕ) (w : Work) (ds : List Directive) (m : ℕ) (x : List ℕ) (ending : Ending) (text : List ℕ) : Type 0 where
  pub more : List ℕ
  pub used : ℕ
  pub end : ToolEnd
  pub is : EndsFrom n w ds m x ending (text ++ more) used end

full : (n : ℕ) (w : Work) (ds : List Directive) (m : ℕ) (x : List ℕ) (ending : Ending) → n ≡ most_records → HasEnd n w ds m x ending []
full n w ds m x ending e = record {
  more = [];
  used = 0;
  end = ended n (Some faults.TooMany);
  is = record {
    written = [];
    left = x;
    tail = [];
    spent = 0;
    passed = refl;
    stops = inl (record {
      full = omega (arith, e);
      nothing = refl;
      unused = refl;
      end_is =
          ap (λ (k : ℕ). ended k (Some faults.TooMany)) {x = n} {y = n + 0} (omega arith);
    });
    output_is = refl;
    used_is = refl;
  };
}

module _ (one : EachHasOneReport) (w : Work) (ds : List Directive) (proper : AreProper ds) (m : ℕ) (ending : Ending) where
  -- ---- one end at least

  stops_here : (n : ℕ) (x : List ℕ) (r : RunReport) → n < most_records → RunWithin ds m x ending r → (turn_in w ds r ≡ Goes → ⊥)
      → HasEnd n w ds m x ending (last_text w ds r)
  stops_here n x r few ran stops = record {
    more = [];
    used = r.used;
    end = end_by (turn_in w ds r) n r;
    is = record {
      written = [];
      left = x;
      tail = last_text w ds r;
      spent = r.used;
      passed = refl;
      stops = inr (record {
        few = omega (arith, few);
        last = r;
        ran = ran;
        stops = stops;
        tail_is = refl;
        spent_is = refl;
        end_is = ap (λ (k : ℕ). end_by (turn_in w ds r) k r) {x = n} {y = n + 0} (omega arith);
      });
      output_is = append-nil (last_text w ds r);
      used_is = omega arith;
    };
  }

  goes_on : (n : ℕ) (x : List ℕ) (r : RunReport) → RunWithin ds m x ending r → turn_in w ds r ≡ Goes
      → HasEnd (n + 1) w ds m (drop r.used x) ending [] → HasEnd n w ds m x ending (last_text w ds r)
  goes_on n x r ran goes h =
      let text : last_text w ds r ≡ w.text r = ap (λ t. cond (writes t) (w.text r) []) goes in
      let all : EndsFrom n w ds m x ending (texts w (r ∷ []) ++ h.more) (uses (r ∷ []) + h.used) h.end =
      joined n w ds m x (drop r.used x) ending (r ∷ []) h.more h.used h.end (ran, goes, refl) h.is in
      record {
        more = h.more;
        used = uses (r ∷ []) + h.used;
        end = h.end;
        is = subst (λ (t : List ℕ). EndsFrom n w ds m x ending (t ++ h.more) (uses (r ∷ []) + h.used) h.end)
            (append-nil (w.text r) ∙ sym text) all;
      }

  -- k records may still be written
  by_run : (k n : ℕ) → n + suc k ≡ most_records → (x : List ℕ) (r : RunReport) → RunWithin ds m x ending r
      → ((y : List ℕ) → HasEnd (n + 1) w ds m y ending []) → HasEnd n w ds m x ending (last_text w ds r)
  by_run k n e x r ran later = elim (goes_or_not (turn_in w ds r)) [
    | inl goes ↦ goes_on n x r ran goes (later (drop r.used x))
    | inr stops ↦ stops_here n x r (omega (arith, e)) ran stops
  ]

  some_text : {n : ℕ} {x text : List ℕ} → HasEnd n w ds m x ending text → HasEnd n w ds m x ending []
  some_text {n} {x} {text} h = record { more = text ++ h.more; used = h.used; end = h.end; is = h.is }

  has_end_by : (k n : ℕ) → n + k ≡ most_records → (x : List ℕ) → HasEnd n w ds m x ending []
  has_end_by zero n e x = full n w ds m x ending (omega (arith, e))
  has_end_by (suc k) n e x =
      let all = one ds proper m x ending in
      some_text (by_run k n e x all.report all.is (λ y. has_end_by k (n + 1) (omega (arith, e)) y))

  pub has_end : (n : ℕ) → n ≤ most_records → (x : List ℕ) → HasEnd n w ds m x ending []
  has_end n few x = has_end_by (most_records - n) n (omega (arith, few)) x

  -- the same where the first run is known
  pub has_end_after : (n : ℕ) → n < most_records → (x : List ℕ) (r : RunReport) → RunWithin ds m x ending r
      → HasEnd n w ds m x ending (last_text w ds r)
  has_end_after n few x r ran = by_run (most_records - (n + 1)) n (omega (arith, few)) x r ran (λ y. has_end (n + 1) (omega (arith, few)) y)

  -- ---- one end at most

  same_report : (x : List ℕ) (r q : RunReport) → RunWithin ds m x ending r → RunWithin ds m x ending q → r ≡ q
  same_report x r q p o = let all = one ds proper m x ending in all.only r p ∙ sym (all.only q o)

  -- the same end, after the same
  record Same (ps qs : List RunReport) (t u : List ℕ) (s v : ℕ) (e f : ToolEnd) : Type 0 where
    pub written : ps ≡ qs
    pub tail : t ≡ u
    pub spent : s ≡ v
    pub end : e ≡ f

  same_tail : (n : ℕ) (x t u : List ℕ) (s v : ℕ) (e f : ToolEnd) → Tail w ds m x ending n t s e → Tail w ds m x ending n u v f
      → Same [] [] t u s v e f
  same_tail n x t u s v e f (inl p) (inl q) = record {
    written = refl;
    tail = p.nothing ∙ sym q.nothing;
    spent = p.unused
        ∙ sym q.unused;
    end = p.end_is ∙ sym q.end_is;
  }
  same_tail n x t u s v e f (inl p) (inr q) = absurd (omega (arith, p.full, q.few))
  same_tail n x t u s v e f (inr p) (inl q) = absurd (omega (arith, q.full, p.few))
  same_tail n x t u s v e f (inr p) (inr q) =
      let same : p.last ≡ q.last = same_report x p.last q.last p.ran q.ran in
      record {
        written = refl;
        tail = p.tail_is ∙ ap (last_text w ds) same ∙ sym q.tail_is;
        spent = p.spent_is ∙ ap (λ (r : RunReport). r.used) same ∙ sym q.spent_is;
        end = p.end_is ∙ ap (λ (r : RunReport). end_by (turn_in w ds r) n r) same ∙ sym q.end_is;
      }

  -- a tail doesn't begin with a record that is passed
  not_passed : {A : Type 0} (n j : ℕ) (x y t u : List ℕ) (s v : ℕ) (e f : ToolEnd) (r : RunReport) → Tail w ds m x ending n t s e
      → RunWithin ds m x ending r → turn_in w ds r ≡ Goes
      → Tail w ds m y ending (n + suc j) u v f → A
  not_passed n j x y t u s v e f r (inl p) ran goes (inl q) = absurd (omega (arith, p.full, q.full))
  not_passed n j x y t u s v e f r (inl p) ran goes (inr q) = absurd (omega (arith, p.full, q.few))
  not_passed n j x y t u s v e f r (inr p) ran goes q = absurd (p.stops (ap (turn_in w ds) (same_report x p.last r p.ran ran) ∙ goes))

  same_end : (ps qs : List RunReport) (n : ℕ) (x y z t u : List ℕ) (s v : ℕ) (e f : ToolEnd)
      → Passed w ds m x ending ps y → Tail w ds m y ending (n + length ps) t s e → Passed w ds m x ending qs z
      → Tail w ds m z ending (n + length qs) u v f → Same ps qs t u s v e f
  same_end [] [] n x y z t u s v e f p a q b =
      same_tail (n + 0) x t u s v e f (subst (λ (left : List ℕ). Tail w ds m left ending (n + 0) t s e) (sym p) a)
      (subst (λ (left : List ℕ). Tail w ds m left ending (n + 0) u v f) (sym q) b)
  same_end [] (r ∷ rs) n x y z t u s v e f p a q b =
      not_passed n (length rs) x z t u s v e f r (subst (λ (k : ℕ). Tail w ds m x ending k t s e) {x = n + 0} {y = n} (omega arith)
      (subst (λ (left : List ℕ). Tail w ds m left ending (n + 0) t s e) (sym p) a)) q.0 q.1 b
  same_end (r ∷ rs) [] n x y z t u s v e f p a q b =
      not_passed n (length rs) x y u t v s f e r (subst (λ (k : ℕ). Tail w ds m x ending k u v f) {x = n + 0} {y = n} (omega arith)
      (subst (λ (left : List ℕ). Tail w ds m left ending (n + 0) u v f) (sym q) b)) p.0 p.1 a
  same_end (r ∷ rs) (o ∷ os) n x y z t u s v e f p a q b =
      let same : r ≡ o = same_report x r o p.0 q.0 in
      let rest : Passed w ds m (drop r.used x) ending os z = subst (λ (first : RunReport). Passed w ds m (drop first.used x) ending os
      z) (sym same) q.2 in
      let later : Same rs os t u s v e f = same_end rs os (n + 1) (drop r.used x) y z t u s v e f p.2
      (subst (λ (k : ℕ). Tail w ds m y ending k t s e) {x = n + suc (length rs)} {y = n + 1 + length rs} (omega arith) a) rest
      (subst (λ (k : ℕ). Tail w ds m z ending k u v f) {x = n + suc (length os)} {y = n + 1 + length os} (omega arith) b) in
      let written : rs ≡ os = later.written in
      record { written = cc; tail = later.tail; spent = later.spent; end = later.end }

  only : (x o p : List ℕ) (u v : ℕ) (e f : ToolEnd) → EndsWith w ds m x ending o u e → EndsWith w ds m x ending p v f → (o ≡ p)
      × (u ≡ v) × (e ≡ f)
  only x o p u v e f a b =
      let same = same_end a.written b.written 0 x a.left b.left a.tail b.tail a.spent b.spent e f a.passed a.stops b.passed b.stops in
      let outputs : texts w a.written ++ a.tail ≡ texts w b.written ++ b.tail = λ i. texts w (same.written i) ++ same.tail i in
      let uses_are : uses a.written + a.spent ≡ uses b.written + b.spent = λ i. uses (same.written i) + same.spent i in
      (a.output_is ∙ outputs ∙ sym b.output_is, a.used_is ∙ uses_are ∙ sym b.used_is, same.end)

  has_one_end : (x : List ℕ) → HasOneEnd w ds m x ending
  has_one_end x =
      let h = has_end 0 (omega arith) x in
      record { output = h.more; used = h.used; end = h.end; is = h.is; only = λ o u e ends. only x o h.more u h.used e h.end ends h.is }

pub one_end_by : EachHasOneReport → EachHasOneEnd
one_end_by one w ds proper m x ending = has_one_end one w ds proper m ending x
