-- Open inputs are used, and closed ones stay.
use Rattle.std.proofs.Common.{◌≡◌, ℕ, ◌+◌, inl, inr, List, [], ◌∷◌, ◌++◌, length, Option, Some, None, sym, ap, subst, ◌∙◌, arith}
use Rattle.std.proofs.Common.{append_assoc, length-append}
use Rattle.std.specs.Prelude.{SomeIff}
use Rattle.sf_format.specs.declared.directive.Directive.{Directive}
use Rattle.sf_format.specs.Proper.{AreProper}
use Rattle.sf_report.specs.declared.outcome.Ending.{Ending}
use Rattle.sf_report.specs.Runs.{RunReport, IsOpen}
use Rattle.sf_report.specs.Limits.{RunWithin, TellsWithin}
use Rattle.sf_report.specs.Laws.{EachClosedInputStays, EachOpenInputIsUsed}
use Rattle.sf_report.specs.Residual.{nothing_yet, run_of}
use Rattle.sf_report.proofs.Openness.{OpenAt, open_or_closed, uses_within}
use Rattle.sf_report.proofs.Told.{run_told, told_exists, told_is, uses_is, uses_from, met_within, within_met}

pub open_of : (ds : List Directive) → AreProper ds → (x : List ℕ) → OpenAt ds 1 0 nothing_yet x → IsOpen ds x
open_of ds proper x w = (
  w.next,
  w.is_byte,
  uses_from ds proper (x ++ w.next ∷ []) (length x + 1)
      (let e : (run_of None ds 1 nothing_yet (x ++ w.next ∷ [])).used ≡ length x + 1 = omega (arith, w.takes) in e),
)

pub open_all : (ds : List Directive) → AreProper ds → (x : List ℕ) → IsOpen ds x → (run_of None ds 1 nothing_yet x).used ≡ length x
open_all ds proper x o = grind (
  arith,
  (open_or_closed ds 1 0 nothing_yet x proper),
  (uses_is ds proper (x ++ o.0 ∷ []) (length x + 1) o.2),
  (uses_within ds 1 nothing_yet x),
)

-- what isn't open is told alike however it goes on
pub closed_same : (ds : List Directive) → AreProper ds → (m : ℕ) (x z : List ℕ) (r : RunReport) → (IsOpen ds x → ⊥) → TellsWithin ds m x r
    → TellsWithin ds m (x ++ z) r
closed_same ds proper m x z r closed h =
    elim (open_or_closed ds 1 0 nothing_yet x proper) [
      | inl w ↦ absurd (closed (open_of ds proper x w))
      | inr w ↦ subst (λ (o : RunReport). TellsWithin ds m (x ++ z) o) (w (Some m) z ∙ sym (told_is ds proper m x r h))
          (told_exists ds proper m (x ++ z))
    ]

closed_more : (ds : List Directive) → AreProper ds → (x z : List ℕ) → (IsOpen ds x → ⊥) → IsOpen ds (x ++ z) → ⊥
closed_more ds proper x z closed o =
    elim (open_or_closed ds 1 0 nothing_yet x proper) [
      | inl w ↦ closed (open_of ds proper x w)
      | inr w ↦ (let long : (run_of None ds 1 nothing_yet ((x ++ z) ++ o.0 ∷ [])).used ≡ length (x ++ z) + 1 =
          uses_is ds proper ((x ++ z) ++ o.0 ∷ []) (length (x ++ z) + 1) o.2 in
          let same : (run_of None ds 1 nothing_yet ((x ++ z) ++ o.0 ∷ [])).used ≡ (run_of None ds 1 nothing_yet x).used =
          ap (λ y. (run_of None ds 1 nothing_yet y).used) (append_assoc x z (o.0 ∷ []))
          ∙ ap (λ (r : RunReport). r.used) (w None (z ++ o.0 ∷ [])) in
          absurd (omega (arith, long, same, uses_within ds 1 nothing_yet x, length-append x z)))
    ]

pub none_met : (met : Option Ending) (P : Type 0) (ending : Ending) → SomeIff met P ending → (P → ⊥) → met ≡ None
none_met met P ending h never = grind arith

pub closed_inputs_stay : EachClosedInputStays
closed_inputs_stay ds proper m x z first second report closed run =
    let told = met_within open_all ds proper m x first report run in
    let none : report.met ≡ None = none_met report.met _ first told.1 (λ o. closed o.0) in
    subst (RunWithin ds m (x ++ z) second) (ap (λ met. record report { met = met }) (sym none))
    (within_met open_all ds proper m (x ++ z) second None (record report { met = None })
    (closed_same ds proper m x z (record report { met = None }) closed told.0)
    (λ o. closed_more ds proper x z closed o.0))

pub open_inputs_are_used : EachOpenInputIsUsed
open_inputs_are_used = grind (arith, run_told, open_all)
