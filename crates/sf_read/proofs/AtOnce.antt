-- Texts whose run is seen at once to be Done, with a newline after them.
use Rattle.std.proofs.Common.{◌≡◌, ℕ, ◌≤◌, inl, inr, List, [], ◌∷◌, ◌++◌, length, sym, ap, subst, ◌∙◌, arith}
use Rattle.std.proofs.Common.{append-nil, append_assoc, length-append}
use Rattle.sf_format.specs.declared.directive.Directive.{Directive}
use Rattle.sf_format.specs.Proper.{AreProper}
use Rattle.sf_format.specs.Unbounded.{EndsUnbounded}
use Rattle.sf_report.specs.declared.outcome.Ending.{Ending}
use Rattle.sf_report.specs.declared.outcome.Status.TheVariants.{Done}
use Rattle.sf_report.specs.Limits.{RunWithin}
use Rattle.sf_report.specs.Runs.{IsOpen, Run, RunReport}
use Rattle.sf_report.proofs.Inputs.{closed_inputs_stay, open_inputs_are_used}
use Rattle.sf_report.proofs.Told.{one_report}
use Rattle.sf_run.specs.Quick.{IsDoneWithin}
use Rattle.sf_read.specs.AtOnce.{IsSeenAtOnce}

-- ---- a run that is Done within a piece

done_run : (ds : List Directive) (m : ℕ) (x : List ℕ) (ending : Ending) (r : RunReport) → r.status ≡ Done → RunWithin ds m x ending r
    → Run ds x ending r
done_run ds m x ending r done (inl w) = w.1
done_run ds m x ending r done (inr w) = let is = ap (λ (o : RunReport). o.status) w.2 in absurd cc

-- it is Done within each longer one
pub done_longer : (ds : List Directive) → AreProper ds → (m : ℕ) (x z : List ℕ) (capacity : ℕ) → IsDoneWithin ds m x capacity
    → IsDoneWithin ds m (x ++ z) capacity
done_longer ds proper m x z capacity seen =
    let run : Run ds x seen.ending seen.report = done_run ds m x seen.ending seen.report seen.done seen.is in
    let early = seen.early in
    let closed : IsOpen ds x → ⊥ = λ o. omega (arith, early, open_inputs_are_used ds proper x seen.ending seen.report o run) in
    record {
      ending = seen.ending;
      report = seen.report;
      is = closed_inputs_stay ds proper m x z seen.ending seen.ending seen.report closed seen.is;
      done = seen.done;
      early = omega (arith, early, length-append x z);
      low = seen.low;
      fits = seen.fits;
      whole = seen.whole;
    }

-- a run on the piece, whatever follows it, uses as many bytes
pub used_within : (ds : List Directive) → AreProper ds → (m : ℕ) (piece : List ℕ) (capacity : ℕ) (report : RunReport)
    → ((z : List ℕ) (ending : Ending) → RunWithin ds m (piece ++ z) ending report) → (seen : IsDoneWithin ds m piece capacity)
    → report.used ≡ seen.report.used
used_within ds proper m piece capacity report run seen =
    let all = one_report ds proper m piece seen.ending in
    let own : RunWithin ds m piece seen.ending report =
    subst (λ y. RunWithin ds m y seen.ending report) (append-nil piece) (run [] seen.ending) in
    ap (λ (r : RunReport). r.used) (all.only report own ∙ sym (all.only seen.report seen.is))

-- ---- a text with a newline after it

-- with more room
pub seen_roomier : (ds : List Directive) (m : ℕ) (text : List ℕ) (least most : ℕ) → least ≤ most → IsSeenAtOnce ds m text least
    → IsSeenAtOnce ds m text most
seen_roomier ds m text least most le seen = record {
  done = record {
    ending = seen.done.ending;
    report = seen.done.report;
    is = seen.done.is;
    done = seen.done.done;
    early = seen.done.early;
    low = seen.done.low;
    fits = let fits = seen.done.fits in omega (arith, fits, le);
    whole = seen.done.whole;
  };
  ends = seen.ends;
}

-- a text that is Done before a byte of it is lacking
pub seen_alone : (ds : List Directive) → AreProper ds → (m : ℕ) (text : List ℕ) (capacity : ℕ) → IsDoneWithin ds m text capacity
    → IsSeenAtOnce ds m text capacity
unfolding done_longer
seen_alone ds proper m text capacity done = record {
  done = done_longer ds proper m text (10 ∷ []) capacity done;
  ends = inl done.early;
}

-- the same in a block, whatever follows the newline there
pub seen_block : (ds : List Directive) → AreProper ds → (m : ℕ) (text rest block : List ℕ) (capacity : ℕ)
    → block ++ [] ≡ text ++ 10 ∷ rest → IsSeenAtOnce ds m text capacity → IsDoneWithin ds m block capacity
seen_block ds proper m text rest block capacity is seen =
    subst (λ y. IsDoneWithin ds m y capacity) (append_assoc text (10 ∷ []) rest ∙ sym is ∙ append-nil block)
    (done_longer ds proper m (text ++ 10 ∷ []) rest capacity seen.done)

-- and the run there uses as many bytes
pub used_block : (ds : List Directive) → (proper : AreProper ds) → (m : ℕ) (text rest block : List ℕ) (capacity : ℕ)
    → block ++ [] ≡ text ++ 10 ∷ rest → (report : RunReport)
    → ((z : List ℕ) (ending : Ending) → RunWithin ds m (block ++ z) ending report) → (seen : IsSeenAtOnce ds m text capacity)
    → report.used ≡ seen.done.report.used
unfolding done_longer
used_block ds proper m text rest block capacity is report run seen =
    let longer = done_longer ds proper m (text ++ 10 ∷ []) rest capacity seen.done in
    let whole : block ≡ (text ++ 10 ∷ []) ++ rest = sym (append-nil block) ∙ is ∙ sym (append_assoc text (10 ∷ []) rest) in
    used_within ds proper m ((text ++ 10 ∷ []) ++ rest) capacity report
    (subst (λ y. (z : List ℕ) (ending : Ending) → RunWithin ds m (y ++ z) ending report) whole run) longer

-- so that run uses no more than the text, and all of it only where the last item could go on
pub used_text : (ds : List Directive) (m : ℕ) (text : List ℕ) (capacity used : ℕ) → (seen : IsSeenAtOnce ds m text capacity)
    → used ≡ seen.done.report.used → used ≤ length text
used_text ds m text capacity used seen is = let early = seen.done.early in omega (arith, early, is, length-append text (10 ∷ []))

pub ends_text : (ds : List Directive) (m : ℕ) (text : List ℕ) (capacity used : ℕ) → (seen : IsSeenAtOnce ds m text capacity)
    → used ≡ seen.done.report.used → length text ≤ used → EndsUnbounded ds
ends_text ds m text capacity used seen is all = elim seen.ends [
  | inl less ↦ absurd (omega (arith, less, is, all))
  | inr ends ↦ ends
]
