-- Joined printed texts are read back, one after the other.
use Rattle.std.proofs.Common.{◌≡◌, ℕ, List, [], ◌∷◌, ◌++◌, length, drop, map, refl, sym, ap, subst, ◌∙◌, append_assoc}
use Rattle.std.specs.List.{AllByRecursion}
use Rattle.std.proofs.lemmas.List.{drop_at}
use Rattle.sf_base.specs.Data.{Datum}
use Rattle.sf_format.specs.declared.directive.Directive.{Directive}
use Rattle.sf_format.specs.declared.unit.Unit.{Unit as PrintUnit}
use Rattle.sf_format.specs.Proper.{IsAccepted}
use Rattle.sf_format.specs.Units.{AreAccepted}
use Rattle.sf_print.specs.Printed.{printed}
use Rattle.sf_report.specs.declared.outcome.Ending.{Ending}
use Rattle.sf_report.specs.Runs.{Run}
use Rattle.sf_pair.specs.conversions.Below.{LawsBelow}
use Rattle.sf_pair.specs.Fits.{Fit}
use Rattle.sf_pair.specs.Groups.{IsAligned}
use Rattle.sf_pair.specs.Joined.{joined, RunsInTurn, JoinedRoundTrip}
use Rattle.sf_pair.specs.Laws.{SlotsAgree, read_back}
use Rattle.sf_pair.proofs.SlotCounts.{slots_agree}
use Rattle.sf_pair.proofs.Whole.{round_trip}

module _ (laws : LawsBelow) (us : List PrintUnit) (ds : List Directive) (accepted : AreAccepted us) (proper : IsAccepted ds)
    (aligned : IsAligned us ds) where
  runs_back : (rows : List (List Datum)) → AllByRecursion (Fit us ds) rows → (z : List ℕ) (ending : Ending)
      → RunsInTurn ds (joined us rows ++ z) ending (map (read_back us ds) rows) z
  runs_back [] fit z ending = refl
  runs_back (row ∷ rows) (fits, fit) z ending =
      let text : List ℕ = printed us row in
      let parts : joined us (row ∷ rows) ++ z ≡ text ++ (joined us rows ++ z) = append_assoc text (joined us rows) z in
      let left : joined us rows ++ z ≡ drop (length text) (joined us (row ∷ rows) ++ z) =
      sym (drop_at text (joined us rows ++ z) (length text) refl) ∙ ap (drop (length text)) (sym parts) in (
        subst (λ (x : List ℕ). Run ds x ending (read_back us ds row)) (sym parts)
            (round_trip laws us ds accepted proper aligned row fits (joined us rows ++ z) ending),
        subst (λ (x : List ℕ). RunsInTurn ds x ending (map (read_back us ds) rows) z) left (runs_back rows fit z ending),
      )

  slots_back : (rows : List (List Datum)) → AllByRecursion (Fit us ds) rows → AllByRecursion (SlotsAgree us ds) rows
  slots_back [] fit = tt
  slots_back (row ∷ rows) (fits, fit) = (slots_agree laws us ds accepted proper aligned row fits, slots_back rows fit)

pub joined_round_trip : LawsBelow → JoinedRoundTrip
joined_round_trip laws us ds accepted proper aligned rows fit z ending = record {
  runs = runs_back laws us ds accepted proper aligned rows fit z ending;
  values = slots_back laws us ds accepted proper aligned rows fit;
}
