-- Scans of what is held.
use Rattle.std.proofs.Common.{◌≡◌, ℕ, ◌≤◌, inl, true, List, [], ◌++◌, length, take, drop, Option, Some, None, refl, sym, ap, subst, ◌∙◌}
use Rattle.std.proofs.Common.{arith, append_assoc, append-nil, length-append, true≢false}
use Rattle.std.specs.Io.KnownBytes.{IsAtEnd, prepend_known}
use Rattle.std.proofs.lemmas.List.{take-append-drop, length-take-le}
use Rattle.std.proofs.Math.Seq.{take-append_seam, drop-append_seam}
use Rattle.sf_format.specs.declared.directive.Directive.{Directive}
use Rattle.sf_run.specs.outcome.Ending.{Ending}
use Rattle.sf_run.specs.outcome.Ending.TheVariants.{End}
use Rattle.sf_run.specs.Runs.{RunReport}
use Rattle.sf_run.specs.Limits.{RunWithin}
use Rattle.sf_read.specs.source.Ahead.{Ahead, input_of}
use Rattle.sf_read.specs.Made.{Made}
use Rattle.sf_read.specs.Scan.{Scan, is_fault}
use Rattle.sf_read.proofs.Blocks.{no_reads, not_nothing}
use Rattle.sf_read.proofs.Reading.{at_end_some, known_parts}

-- a report that stands however what is held goes on, of which so many bytes were consumed
pub held_scan : {S : Type 0} (to_come : S → Option (List ℕ)) (ds : List Directive) (m : ℕ) (old new : Ahead S) (report : RunReport)
    → ((z : List ℕ) (ending : Ending) → RunWithin ds m (old.held ++ z) ending report) → report.met ≡ None → report.used ≤ length old.held
    → new.held ≡ drop report.used old.held → new.source ≡ old.source → new.at_end ≡ old.at_end
    → (new.at_end ≡ true → IsAtEnd (to_come new.source))
    → (t : List ℕ) → input_of to_come old ≡ Some t → Scan to_come ds m t old new report
held_scan to_come ds m old new report run met fits held source at_end told t e =
    let (z, coming, whole) = known_parts old.held (to_come old.source) t e in
    let used : List ℕ = take report.used old.held in
    let parts : used ++ drop report.used old.held ≡ old.held = take-append-drop report.used old.held in
    let long : length used ≡ report.used = length-take-le report.used old.held fits in
    let input : t ≡ used ++ (drop report.used old.held ++ z) = whole ∙ ap (λ y. y ++ z) (sym parts)
    ∙ append_assoc used (drop report.used old.held) z in
    let took : take report.used t ≡ used = ap (take report.used) input
    ∙ ap (λ n. take n (used ++ (drop report.used old.held ++ z))) (sym long) ∙ take-append_seam used (drop report.used old.held ++ z) in
    let left : drop report.used t ≡ drop report.used old.held ++ z =
    ap (drop report.used) input ∙ ap (λ n. drop n (used ++ (drop report.used old.held ++ z))) (sym long)
    ∙ drop-append_seam used (drop report.used old.held ++ z) in
    let both : take report.used t ++ new.held ≡ old.held = ap (λ y. y ++ new.held) took ∙ ap (λ y. used ++ y) held ∙ parts in
    record {
      whole = λ _. inl (subst (λ y. RunWithin ds m y End report) (sym whole) (run z End));
      cut = λ f. absurd (let g = ap is_fault met in cc);
      within = omega (arith, fits, ap length whole, length-append old.held z);
      rest = ap (prepend_known new.held) (ap to_come source ∙ coming) ∙ ap (λ y. Some (y ++ z)) held ∙ ap Some (sym left);
      seen = λ _ y ending follows. inl (subst (λ x. RunWithin ds m x ending report) (sym (ap (λ x. x ++ y) both)) (run y ending));
      read = ([], both ∙ sym (append-nil old.held), λ _. refl);
      nothing_held = λ f. absurd (let g = ap is_fault met in cc);
      told = λ f y g. at_end_some (to_come new.source) y (told f) g;
    }

-- it is made of what is held, without a read
pub held_made : {S : Type 0} (to_come : S → Option (List ℕ)) (reads : S → ℕ) (N : ℕ) (ds : List Directive) (m : ℕ) (old new : Ahead S)
    (report : RunReport)
    → ((z : List ℕ) (ending : Ending) → RunWithin ds m (old.held ++ z) ending report) → report.met ≡ None → report.used ≤ length old.held
    → new.held ≡ drop report.used old.held → new.source ≡ old.source → new.at_end ≡ old.at_end
    → Made to_come reads N ds m old new report
held_made to_come reads N ds m old new report run met fits held source at_end = record {
  bytes = take report.used old.held;
  used = sym (length-take-le report.used old.held fits);
  reads_are = no_reads (take report.used old.held) new (rw (held, take-append-drop) refl) source;
  whole = λ _ z ending follows. inl (subst (λ (x : List ℕ). RunWithin ds m (x ++ z) ending report) (sym (append-nil old.held))
      (run z ending));
  cut = λ f. absurd (let g = ap is_fault met in cc);
  nothing_held = λ f. absurd (let g = ap is_fault met in cc);
  failed = λ f. absurd (let g = ap is_fault met in cc);
  told_end = λ open' e. absurd (true≢false (sym e ∙ at_end ∙ open'));
  gave_nothing = λ h. absurd (not_nothing h);
  stays = λ e. at_end ∙ e;
}
