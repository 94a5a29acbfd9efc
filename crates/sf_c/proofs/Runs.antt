-- Records of a text, one more.
use Rattle.std.proofs.Common.{◌≡◌, ◌∙◌, ◌≤◌, ◌<◌, ◌+◌, ◌↔◌, ℕ, List, [], ◌∷◌, ◌++◌, Bool, true, false, length, drop, inl, inr}
use Rattle.std.proofs.Common.{sym, ap, subst}
use Rattle.std.proofs.Common.{refl, arith}
use Rattle.std.proofs.lemmas.List.{drop-drop}
use Rattle.sf_format.specs.declared.directive.Directive.{Directive}
use Rattle.sf_read.proofs.Consuming.{cut_below, report_within}
use Rattle.sf_run.specs.outcome.Ending.{Ending}
use Rattle.sf_run.specs.outcome.Outcome.{Outcome}
use Rattle.sf_run.specs.outcome.Status.TheVariants.{Done}
use Rattle.sf_loops.specs.Turns.{outcome_of}
use Rattle.sf_run.specs.Limits.{RunTold}
use Rattle.sf_run.specs.Runs.{RunReport}
use Rattle.sf_c.specs.Records.{AreRecords, IsGoing, IsRunAt, IsTaken}

-- the records and the one that follows them
pub records_more : (lines : Bool) (ds : List Directive) (limit : ℕ) (text : List ℕ) (reports : List RunReport) (report : RunReport)
    (used size : ℕ) → AreRecords lines ds limit text reports used → IsRunAt lines ds limit (drop used text) size report
    → IsTaken lines ds report → AreRecords lines ds limit text (reports ++ report ∷ []) (used + size)
records_more lines ds limit text [] report used size none run taken =
    let at : drop used text ≡ text = ap (λ (n : ℕ). drop n text) none in (
      size,
      0,
      subst (λ (x : List ℕ). IsRunAt lines ds limit x size report) at run,
      taken,
      omega (arith, none),
      refl,
    )
records_more lines ds limit text (first ∷ reports) report used size (before, rest, is, goes, sum, others) run taken =
    let at : drop used text ≡ drop rest (drop before text) = ap (λ (n : ℕ). drop n text) sum ∙ sym (drop-drop rest before text) in (
      before,
      rest + size,
      is,
      goes,
      omega (arith, sum),
      records_more lines ds limit (drop before text) reports report rest size others
          (subst (λ (x : List ℕ). IsRunAt lines ds limit x size report) at run) taken,
    )

-- a report's bytes are among those of its input, also where memory was refused
pub told_within : (ds : List Directive) (limit : ℕ) (text : List ℕ) (ending : Ending) (report : RunReport)
    → RunTold ds limit text ending report → report.used ≤ length text
told_within ds limit text ending report (inl h) = report_within ds limit text ending report h
told_within ds limit text ending report (inr (k, low, (before, cut, stores, is))) = rw is (omega (arith, cut_below ds text k before cut))

-- an outcome that has the fields of a report is the report's
pub outcome_is : (o : Outcome) (r : RunReport) → o.status ≡ r.status → o.at ≡ r.at → o.assigned ≡ r.assigned → o.converted ≡ r.converted
    → o.used ≡ r.used → o.met ≡ r.met → o ≡ outcome_of r
outcome_is o r status at assigned converted used met =
    let made : Outcome = record {
      status = o.status;
      at = o.at;
      assigned = o.assigned;
      converted = o.converted;
      used = o.used;
      met = o.met;
    } in
    let same : made ≡ outcome_of r = cc in same

-- the test for a record says whether there is one
pub taken_is : (lines : Bool) (ds : List Directive) (report : RunReport) (o : Outcome) (result : Bool) → o ≡ outcome_of report
    → (lines ≡ false → (result ≡ true ↔ IsGoing ds o)) → (lines ≡ true → (result ≡ true ↔ (o.status ≡ Done)))
    → (result ≡ true ↔ IsTaken lines ds report)
taken_is false ds report o result is going line = subst (λ (made : Outcome). result ≡ true ↔ IsGoing ds made) is (going refl)
taken_is true ds report o result is going line = subst (λ (made : Outcome). result ≡ true ↔ (made.status ≡ Done)) is (line refl)

-- a record has bytes
pub size_some : (lines : Bool) (ds : List Directive) (limit : ℕ) (text : List ℕ) (size : ℕ) (report : RunReport)
    → IsRunAt lines ds limit text size report → IsTaken lines ds report → (lines ≡ true → 0 < size) → 0 < size
size_some false ds limit text size report run taken line = omega (arith, run.1, taken.some)
size_some true ds limit text size report run taken line = line refl
