-- The scan of a printed text takes just that text, and gives the values.
use Rattle.std.proofs.Common.{◌≡◌, ℕ, ◌+◌, ◌≤◌, Bool, true, false, cond, List, [], ◌∷◌, ◌++◌, length, drop, Some, None, refl, sym, ap}
use Rattle.std.proofs.Common.{subst, ◌∙◌, arith, append_assoc, append-nil, length-append, length-drop, zero-add}
use Rattle.std.specs.List.{count_by}
use Rattle.std.proofs.lemmas.List.Sums.{sum_by-cons}
use Rattle.sf_base.specs.Data.{Datum, Assigned}
use Rattle.sf_format.specs.declared.directive.Directive.{Directive}
use Rattle.sf_format.specs.declared.unit.Unit.{Unit as PrintUnit}
use Rattle.sf_format.specs.Units.{IsProperUnit, AreProperUnits, AreAccepted, values_of}
use Rattle.sf_format.specs.Proper.{AreProper, IsAccepted}
use Rattle.sf_print.specs.Printed.{printed}
use Rattle.sf_report.specs.declared.outcome.Status.TheVariants.{Done}
use Rattle.sf_report.specs.Steps.{StepEnd, Passes, Stores, Misses, Fails}
use Rattle.sf_report.specs.Runs.{RunReport, Uses, bytes_used, IsOpen, is_conversion}
use Rattle.sf_report.specs.Residual.{Tally, nothing_yet, with_used, counted, out_of, then_on, run_of, run_past}
use Rattle.sf_report.specs.Computed.{step_of, part_of, ran_of}
use Rattle.sf_pair.specs.conversions.Below.{LawsBelow}
use Rattle.sf_pair.specs.Groups.{IsAligned, next_of}
use Rattle.sf_pair.specs.Fits.{Fit}
use Rattle.sf_pair.specs.Laws.{printed_values, read_back, RoundTrip}
use Rattle.sf_pair.proofs.FitCut.{FitCut, all_rest, fit_cut}
use Rattle.sf_pair.proofs.Ahead.{At, at_same}
use Rattle.sf_pair.proofs.Steps.{Gains, move}

-- the totals t, and those of the units and directives
abbrev pub total : Tally → ℕ → List PrintUnit → List Directive → List Datum → Tally
total t used us ds values = record {
  used = used;
  assigned = t.assigned + length (values_of us);
  converted = t.converted + count_by is_conversion ds;
  values = t.values ++ printed_values us values;
}

pub record Reads (ds : List Directive) (us : List PrintUnit) (values : List Datum) (at : ℕ) (t : Tally) (x z : List ℕ) : Type 0 where
  pub used : ℕ
  pub used_is : used + length z ≡ t.used + length x
  pub runs : run_of None ds at t x ≡ out_of Done 0 (total t used us ds values)

-- one step that passes
step_on : LawsBelow → (d : Directive) (ds : List Directive) (at : ℕ) (t : Tally) (x : List ℕ) (k : ℕ) (end : StepEnd)
    → step_of d x t.used ≡ (k, end)
    → run_of None (d ∷ ds) at t x ≡ then_on None d at t (part_of t.used x (k, end)) (run_past None ds (at + 1))
step_on laws d ds at t x k end e =
    ap (λ p. then_on None d at t p (run_past None ds (at + 1))) (laws.machine d x t.used)
    ∙ ap (λ r. then_on None d at t (part_of t.used x r) (run_past None ds (at + 1))) e

abbrev tally : ℕ → ℕ → ℕ → List Assigned → Tally
tally u a c v = record { used = u; assigned = a; converted = c; values = v }

same_tally : (u : ℕ) {a b c d : ℕ} {v w : List Assigned} → a ≡ b → c ≡ d → v ≡ w → tally u a c v ≡ tally u b d w
same_tally u {a} {b} {c} {d} {v} {w} p q r = (λ i. tally u (p i) (q i) (r i))

count_more : (b : Bool) (n k l : ℕ) → l ≡ cond b 1 0 + k → cond b (n + 1) n + k ≡ n + l
count_more true n k l e = omega arith
count_more false n k l e = omega arith

more_assigned : (b : Bool) (n k l : ℕ) → b ≡ true → l ≡ k + 1 → cond b (n + 1) n + k ≡ n + l
more_assigned true n k l e f = omega arith
more_assigned false n k l e f = absurd cc

module _ (laws : LawsBelow) (values : List Datum) where
  -- the totals after the first step, with those of the rest
  gained : (d : Directive) (ds : List Directive) (group rest : List PrintUnit) (t : Tally) (k used : ℕ) (end : StepEnd)
      → Gains values d end group rest
      → total (counted d end (with_used (t.used + k) t)) used rest ds values ≡ total t used (group ++ rest) (d ∷ ds) values
  gained d ds group rest t k used Passes g =
      same_tally used (ap (λ (n : ℕ). t.assigned + n) (sym g.0)) (count_more (is_conversion d) t.converted (count_by is_conversion ds) _
      (sum_by-cons (λ (d : Directive). cond (is_conversion d) 1 0) d ds))
      (ap (λ (vs : List Assigned). t.values ++ vs) (sym g.1))
  gained d ds group rest t k used (Stores slot v) g =
      same_tally used (more_assigned (is_conversion d) t.assigned (length (values_of rest)) _ g.0 g.1)
      (count_more (is_conversion d) t.converted (count_by is_conversion ds) _
      (sum_by-cons (λ (d : Directive). cond (is_conversion d) 1 0) d ds))
      (append_assoc t.values (record { slot = slot; datum = v } ∷ []) (printed_values rest values)
      ∙ ap (λ (vs : List Assigned). t.values ++ vs) (sym g.2))
  gained d ds group rest t k used Misses g = absurd g
  gained d ds group rest t k used (Fails status) g = absurd g

  goes_on : (d : Directive) (ds : List Directive) (group rest : List PrintUnit) (at : ℕ) (t : Tally) (x z : List ℕ) (k : ℕ) (end : StepEnd)
      → step_of d x t.used ≡ (k, end) → k ≤ length x → Gains values d end group rest
      → Reads ds rest values (at + 1) (counted d end (with_used (t.used + k) t)) (drop k x) z
      → Reads (d ∷ ds) (group ++ rest) values at t x z
  goes_on d ds group rest at t x z k Passes is within g r = record {
    used = r.used;
    used_is = omega (arith, r.used_is, length-drop k x);
    runs = step_on laws d ds at t x k Passes is ∙ r.runs ∙ ap (out_of Done 0) (gained d ds group rest t k r.used Passes g);
  }
  goes_on d ds group rest at t x z k (Stores slot v) is within g r = record {
    used = r.used;
    used_is = omega (arith, r.used_is, length-drop k x);
    runs = step_on laws d ds at t x k (Stores slot v) is ∙ r.runs
        ∙ ap (out_of Done 0) (gained d ds group rest t k r.used (Stores slot v) g);
  }
  goes_on d ds group rest at t x z k Misses is within g r = absurd g
  goes_on d ds group rest at t x z k (Fails status) is within g r = absurd g

  pub reads_all : (ds : List Directive) (us : List PrintUnit) (at : ℕ) (t : Tally) (x z : List ℕ) → AreProperUnits us → FitCut values ds us
      → At (next_of ds) x (printed us values ++ z) → Reads ds us values at t x z
  reads_all [] us at t x z proper cut ahead =
      let F : List PrintUnit → Type 0 = λ us. Reads [] us values at t x z in
      let e : x ≡ z = ahead ∙ ap (λ (us : List PrintUnit). printed us values ++ z) cut in
      subst F (sym cut) (record {
        used = t.used;
        used_is = ap (λ (y : List ℕ). t.used + length y) (sym e);
        runs = ap (out_of Done 0) (same_tally t.used (let k : t.assigned ≡ t.assigned + 0 = omega arith in k)
            (let k : t.converted ≡ t.converted + 0 = omega arith in k) (sym (append-nil t.values)));
      })
  reads_all (d ∷ ds) us at t x z proper (group, rest, parts, is, more) ahead =
      let F : List PrintUnit → Type 0 = λ us. Reads (d ∷ ds) us values at t x z in
      let A : List PrintUnit → Type 0 = λ us. At (Some d) x (printed us values ++ z) in
      let here : AreProperUnits rest = all_rest IsProperUnit group rest (subst AreProperUnits parts proper) in
      let m = move laws values z ds group rest x t.used here more d is (subst A parts ahead) in
      let within : m.bytes ≤ length x = subst (λ (k : ℕ). k ≤ length x) (ap (λ (r : ℕ × StepEnd). r.0) m.is) (laws.within d x t.used) in
      subst F (sym parts) (goes_on d ds group rest at t x z m.bytes m.end m.is within m.gains
      (reads_all ds rest (at + 1) (counted d m.end (with_used (t.used + m.bytes) t)) (drop m.bytes x) z here more m.left))

-- ---- the run

run_is : LawsBelow → (us : List PrintUnit) (ds : List Directive) → AreAccepted us → IsAccepted ds → IsAligned us ds → (values : List Datum)
    → Fit us ds values → (z : List ℕ)
    → run_of None ds 1 nothing_yet (printed us values ++ z) ≡ read_back us ds values
run_is laws us ds accepted proper aligned values fit z =
    let r = reads_all laws values ds us 1 nothing_yet (printed us values ++ z) z accepted.proper
    (fit_cut laws values ds us proper.proper proper.sized accepted.proper aligned.cut fit.each) (at_same (next_of ds) _ _ refl) in
    let used : r.used ≡ length (printed us values) = omega (arith, r.used_is, length-append (printed us values) z) in
    r.runs ∙ (λ i. out_of Done 0 (record {
      used = used i;
      assigned = zero-add (length (values_of us)) i;
      converted =
          zero-add (count_by is_conversion ds) i;
      values = printed_values us values;
    }))

used_is : LawsBelow → (ds : List Directive) → AreProper ds → (x : List ℕ) (k : ℕ) → Uses ds x k → (run_of None ds 1 nothing_yet x).used ≡ k
used_is laws ds proper x k (ran, steps, is) = ap (λ (r : RunReport). r.used) (laws.told ds x)
    ∙ ap bytes_used (sym ((laws.runs ds proper x 0 ran).0 steps)) ∙ is

-- a byte more changes nothing
not_open : LawsBelow → (us : List PrintUnit) (ds : List Directive) → AreAccepted us → IsAccepted ds → IsAligned us ds
    → (values : List Datum) → Fit us ds values → (z : List ℕ) → IsOpen ds (printed us values ++ z) → ⊥
not_open laws us ds accepted proper aligned values fit z (b, small, uses) =
    let one : (run_of None ds 1 nothing_yet ((printed us values ++ z) ++ b ∷ [])).used ≡ length (printed us values ++ z) + 1 =
    used_is laws ds proper.proper ((printed us values ++ z) ++ b ∷ []) (length (printed us values ++ z) + 1) uses in
    let same : (run_of None ds 1 nothing_yet ((printed us values ++ z) ++ b ∷ [])).used ≡ length (printed us values) =
    ap (λ (y : List ℕ). (run_of None ds 1 nothing_yet y).used) (append_assoc (printed us values) z (b ∷ []))
    ∙ ap (λ (r : RunReport). r.used) (run_is laws us ds accepted proper aligned values fit (z ++ b ∷ [])) in
    omega (arith, one, same, length-append (printed us values) z)

-- the scan of a printed text, whatever follows it
pub round_trip : LawsBelow → RoundTrip
round_trip laws us ds accepted proper aligned values fit z ending =
    let x : List ℕ = printed us values ++ z in
    let steps = (laws.runs ds proper.proper x 0 (ran_of ds x 0)).1 refl in (
      ran_of ds x 0,
      steps,
      None,
      not_open laws us ds accepted proper aligned values fit z,
      sym (run_is laws us ds accepted proper aligned values fit z) ∙ laws.told ds x,
    )
