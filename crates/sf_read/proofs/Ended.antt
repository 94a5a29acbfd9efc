-- A scanner that was fed and ended.
use Rattle.std.proofs.Common.{◌≡◌, ◌<◌, ◌≤◌, inl, inr, Bool, true, false, ℕ, List, [], ◌++◌, Option, Some, None, refl, sym, ap, subst}
use Rattle.std.proofs.Common.{true≢false, append-nil, ◌∙◌}
use Rattle.std.specs.Prelude.{IsSome}
use Rattle.std.proofs.Math.Nat.{lt_of_not-le}
use Rattle.sf_format.specs.declared.directive.Directive.{Directive}
use Rattle.sf_run.specs.outcome.Ending.{Ending}
use Rattle.sf_run.specs.declared.feeding.FeedState.{FeedState}
use Rattle.sf_run.specs.declared.feeding.FeedState.TheVariants as feed
use Rattle.sf_run.specs.Runs.{RunReport}
use Rattle.sf_run.specs.Limits.{RunTold, RunWithin}
use Rattle.sf_run.specs.Standing.{Standing, After, Gives, ran_out}
use Rattle.sf_run.specs.Stopping.{is_memory_status}

ended_of : (s : FeedState) → (s ≡ feed.Wait → ⊥) → s ≡ feed.Ended
ended_of feed.Wait never = absurd (never refl)
ended_of feed.Ended never = refl

-- after a piece and the input's ending it has the report, whether a storing was refused or not
pub fed_and_ended : (ds : List Directive) (m : ℕ) (fed new : Standing) (x : List ℕ) (ending : Ending) (state : FeedState)
    → (ran_out fed ≡ false → After ds m fed x) → (state ≡ feed.Wait → ran_out fed ≡ false)
    → (state ≡ feed.Ended → (z : List ℕ) → Gives ds m fed (x ++ z) ending)
    → (After ds m fed x → Gives ds m new x ending) → (Gives ds m fed x ending → new ≡ fed) → Gives ds m new x ending
fed_and_ended ds m fed new x ending state after waits gives ends stays = by (ran_out fed) refl
  where
    by : (v : Bool) → ran_out fed ≡ v → Gives ds m new x ending
    by false fine = ends (after fine)
    by true out =
        let own : Gives ds m fed x ending = subst (λ y. Gives ds m fed y ending) (append-nil x)
        (gives (ended_of state (λ w. true≢false (sym out ∙ waits w))) []) in
        subst (λ s. Gives ds m s x ending) (sym (stays own)) own

-- a report that tells of no refusal is that of the run
pub told_within : (ds : List Directive) (m : ℕ) (x : List ℕ) (ending : Ending) (r : RunReport) → RunTold ds m x ending r
    → is_memory_status r.status ≡ false → RunWithin ds m x ending r
told_within ds m x ending r (inl w) fine = w
told_within ds m x ending r (inr w) fine = absurd (true≢false (sym (ap (λ (o : RunReport). is_memory_status o.status) w.2.3) ∙ fine))

-- a scanner with a fixed store was made only for a format with a width sum
pub has_sum : (limit : ℕ) (sum : Option ℕ) → (2147483647 < limit → ⊥) → ((limit ≤ 2147483647) × (sum ≡ None) → ⊥) → IsSome sum
has_sum limit (Some n) low none = refl
has_sum limit None low none = absurd (low (lt_of_not-le (λ few. none (few, refl))))
