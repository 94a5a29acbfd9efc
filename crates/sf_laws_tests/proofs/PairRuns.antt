-- What a checked pair reads, by its laws.
use Rattle.std.proofs.Common.{false, ◌≡◌, ◌<◌, ◌≤◌, inl, ℕ, List, [], ◌∷◌, ◌++◌, length, Some, sym, ap, subst, ◌∙◌, arith, append-nil}
use Rattle.std.proofs.Common.{length-append}
use Rattle.sf_base.specs.Data.{Datum}
use Rattle.sf_format.specs.declared.directive.Directive.{Directive}
use Rattle.sf_format.specs.declared.unit.Unit.{Unit as PrintUnit}
use Rattle.sf_format.specs.Proper.{may_miss}
use Rattle.sf_format.specs.Widths.{width_sum}
use Rattle.std.specs.Prelude.{IsSome}
use Rattle.sf_print.specs.Printed.{printed}
use Rattle.sf_run.specs.outcome.Ending.{Ending}
use Rattle.sf_run.specs.outcome.Ending.TheVariants.{End}
use Rattle.sf_run.specs.outcome.Status.TheVariants.{InputFailure}
use Rattle.sf_report.specs.Laws.{EachHasOneReport}
use Rattle.sf_report.specs.Limits.{RunWithin}
use Rattle.sf_report.specs.Rows.{AreRowOf}
use Rattle.sf_report.specs.Runs.{RunReport}
use Rattle.sf_pair.specs.Fits.{Fit}
use Rattle.sf_pair.specs.Formats.{IsChecked}
use Rattle.sf_pair.specs.Groups.{IsAligned}
use Rattle.sf_pair.specs.Joined.{JoinedRoundTrip, RunsInTurn, joined}
use Rattle.sf_pair.specs.Laws.{AlignedEndsOnNothing, AlignedIsBounded, AlignedMissesNone, AlignedSlotsAgree, PrintsSome, ReadWithin}
use Rattle.sf_pair.specs.Laws.{RoundTrip, read_back}
use Rattle.sf_pair.specs.Walk.{AlignedIsAccepted}

module _ (us : List PrintUnit) (ds : List Directive) (checked : IsChecked us ds) (accepted : AlignedIsAccepted) where
  aligned : IsAligned us ds
  aligned = (accepted us ds).0 checked.found

  pub bounded : AlignedIsBounded → IsSome (width_sum ds)
  bounded law = law us ds checked.scanned aligned

  pub missed : AlignedMissesNone → (slot : ℕ) → may_miss slot ds ≡ false
  missed law = law us ds aligned

  pub back : ReadWithin → AlignedSlotsAgree → (values : List Datum) (z text : List ℕ) → Fit us ds values → length (printed us values) ≤ 1000
      → text ≡ printed us values ++ z → (report : RunReport) → RunWithin ds 1000 text End report
      → (report ≡ read_back us ds values) × AreRowOf (length values) values report.values
  back within agree values z text fit low is report run =
      let own : RunWithin ds 1000 (printed us values ++ z) End report = subst (λ x. RunWithin ds 1000 x End report) is run in
      let same : report ≡ read_back us ds values = within us ds checked.printed checked.scanned aligned values fit 1000 low z End report
      own in (
        same,
        subst (λ (r : RunReport). AreRowOf (length values) values r.values) (sym same)
            (agree us ds checked.printed checked.scanned aligned values fit).row,
      )

  pub some : PrintsSome → (values : List Datum) (z text : List ℕ) → Fit us ds values → text ≡ printed us values ++ z → 0 < length text
  some law values z text fit is =
      omega (arith, law us ds checked.printed checked.scanned aligned values fit, ap length is, length-append (printed us values) z)

  pub nothing : AlignedEndsOnNothing → EachHasOneReport → (text : List ℕ) → text ≡ [] → (report : RunReport)
      → RunWithin ds 1000 text End report
      → (report.status ≡ InputFailure) × (report.met ≡ Some End)
  nothing law one text is report run =
      let ends = law us ds checked.scanned aligned in
      let own = one ds checked.scanned.proper 1000 [] End in
      let same : report ≡ ends.report =
      own.only report (subst (λ x. RunWithin ds 1000 x End report) is run)
      ∙ sym (own.only ends.report (inl (omega (arith, ends.used), ends.run))) in
      (ap (λ (r : RunReport). r.status) same ∙ ends.status, ap (λ (r : RunReport). r.met) same ∙ ends.met)

  pub again : RoundTrip → EachHasOneReport → (values : List Datum) (text : List ℕ) → Fit us ds values → text ≡ printed us values
      → length text ≤ 1000
      → (report : RunReport) → RunWithin ds 1000 text End report → report ≡ read_back us ds values
  again law one values text fit is low report run =
      let trip = law us ds checked.printed checked.scanned aligned values fit [] End in
      let own = one ds checked.scanned.proper 1000 (printed us values ++ []) End in
      own.only report (subst (λ x. RunWithin ds 1000 x End report) (is ∙ sym (append-nil (printed us values))) run)
      ∙ sym (own.only (read_back us ds values) (inl (omega (arith, low, ap length is), trip)))

  -- two texts, one after the other
  pub rows : JoinedRoundTrip → (one other : List Datum) → Fit us ds one → Fit us ds other → (empty first both : List ℕ) → empty ≡ []
      → first ≡ empty ++ printed us one → both ≡ first ++ printed us other → (z : List ℕ) (ending : Ending)
      → RunsInTurn ds (both ++ z) ending (read_back us ds one ∷ read_back us ds other ∷ []) z
  rows law one other fit other_fit empty first both none first_is both_is z ending =
      let is : both ≡ joined us (one ∷ other ∷ []) =
      both_is ∙ ap (λ (t : List ℕ). t ++ printed us other) (first_is ∙ ap (λ (t : List ℕ). t ++ printed us one) none)
      ∙ ap (λ (t : List ℕ). printed us one ++ t) (sym (append-nil (printed us other))) in
      subst (λ (t : List ℕ). RunsInTurn ds (t ++ z) ending (read_back us ds one ∷ read_back us ds other ∷ []) z) (sym is)
      (law us ds checked.printed checked.scanned aligned (one ∷ other ∷ []) (fit, (other_fit, tt)) z ending).runs
