-- One thing comes of each line.
use Rattle.std.proofs.Common.{◌≡◌, ℕ, suc, ◌+◌, length, Bool, true, false, List, [], ◌∷◌, ◌++◌, Option, None, ◌⊎◌, inl, inr, refl, sym}
use Rattle.std.proofs.Common.{ap, subst, ◌∙◌, arith, true≢false}
use Rattle.std.specs.Prelude.{IsSome, is_some}
use Rattle.std.specs.List.{AllByRecursion, Contains}
use Rattle.sf_format.specs.declared.directive.Directive.{Directive}
use Rattle.sf_format.specs.Proper.{AreProper}
use Rattle.sf_run.specs.outcome.Ending.TheVariants.{End}
use Rattle.sf_run.specs.Runs.{RunReport}
use Rattle.sf_run.specs.Limits.{RunWithin}
use Rattle.sf_run.specs.Laws.{EachHasOneReport}
use Rattle.sf_records.specs.declared.by_lines.end.LineFault.{LineFault}
use Rattle.sf_records.specs.by_lines.Turns.{AreScanned, LineWork, Matches, Misses, Turn, IsJudged, Comes, fault_of, number_of, turn_by}
use Rattle.sf_records.specs.by_lines.Turns.{used_whole}
use Rattle.sf_records.specs.by_lines.Loops.{IfGoing, AreTurns, goes_on}
use Rattle.sf_records.proofs.LinewiseLemmas.Choosing.{all_at}

none_is_some : (fault : Option LineFault) → fault ≡ None → IsSome fault → ⊥
none_is_some fault e some = true≢false (sym some ∙ ap is_some e)

module _ (one : EachHasOneReport) (w : LineWork) where
  same_report : (ds : List Directive) → AreProper ds → (line : List ℕ) (r q : RunReport) → RunWithin ds w.options.limit line End r
      → RunWithin ds w.options.limit line End q → r ≡ q
  same_report ds proper line r q p o = let all = one ds proper w.options.limit line End in all.only r p ∙ sym (all.only q o)

  -- a format by which the line is no match counts only as the last
  missed_is_last : (ds : List Directive) (line : List ℕ) (r : RunReport) → AreProper ds → Misses w.options line ds
      → RunWithin ds w.options.limit line End r → (rest : List (List Directive)) → (fault_of w.options line r ≡ None) ⊎ (rest ≡ [])
      → rest ≡ []
  missed_is_last ds line r proper (q, ran', some) ran rest (inl none) =
      absurd (none_is_some (fault_of w.options line q) (ap (fault_of w.options line) (same_report ds proper line q r ran' ran) ∙ none)
      some)
  missed_is_last ds line r proper missed ran rest (inr last) = last

  some_rest : (before after : List (List Directive)) (ds : List Directive) → before ++ ds ∷ after ≡ [] → ⊥
  some_rest [] after ds e = cc
  some_rest (x ∷ before) after ds e = cc

  -- the format and the report that count, and its place
  same_pick : (line : List ℕ) (formats before before' after after' : List (List Directive)) (ds ds' : List Directive) (r r' : RunReport)
      → AllByRecursion AreProper formats → formats ≡ before ++ ds ∷ after → formats ≡ before' ++ ds' ∷ after'
      → AllByRecursion (Misses w.options line) before → AllByRecursion (Misses w.options line) before'
      → RunWithin ds w.options.limit line End r → RunWithin ds' w.options.limit line End r'
      → (fault_of w.options line r ≡ None) ⊎ (after ≡ []) → (fault_of w.options line r' ≡ None) ⊎ (after' ≡ [])
      → (ds ≡ ds') × (r ≡ r') × (length before ≡ length before')
  same_pick line [] before before' after after' ds ds' r r' proper e e' m m' ran ran' c c' = absurd (some_rest before after ds (sym e))
  same_pick line (f ∷ formats) [] [] after after' ds ds' r r' proper e e' m m' ran ran' c c' =
      let first : ds ≡ f = cc in
      let other : ds' ≡ f = cc in (
        first ∙ sym other,
        same_report f proper.0 line r r' (subst (λ (d : List Directive). RunWithin d w.options.limit line End r) first
            ran) (subst (λ (d : List Directive). RunWithin d w.options.limit line End r') other ran'),
        refl,
      )
  same_pick line (f ∷ formats) [] (x ∷ before') after after' ds ds' r r' proper e e' m m' ran ran' c c' =
      let first : ds ≡ f = cc in
      let other : x ≡ f = cc in
      let rest : after ≡ before' ++ ds' ∷ after' = cc in
      let last : after ≡ [] = missed_is_last f line r proper.0 (subst (Misses w.options line) other m'.0)
      (subst (λ (d : List Directive). RunWithin d w.options.limit line End r) first ran) after c in
      absurd (some_rest before' after' ds' (sym rest ∙ last))
  same_pick line (f ∷ formats) (x ∷ before) [] after after' ds ds' r r' proper e e' m m' ran ran' c c' =
      let first : ds' ≡ f = cc in
      let other : x ≡ f = cc in
      let rest : after' ≡ before ++ ds ∷ after = cc in
      let last : after' ≡ [] = missed_is_last f line r' proper.0 (subst (Misses w.options line) other m.0)
      (subst (λ (d : List Directive). RunWithin d w.options.limit line End r') first ran') after' c' in
      absurd (some_rest before after ds (sym rest ∙ last))
  same_pick line (f ∷ formats) (x ∷ before) (y ∷ before') after after' ds ds' r r' proper e e' m m' ran ran' c c' =
      let rest : formats ≡ before ++ ds ∷ after = cc in
      let rest' : formats ≡ before' ++ ds' ∷ after' = cc in
      let later = same_pick line formats before before' after after' ds ds' r r' proper.1 rest rest' m.1 m'.1 ran ran' c c' in
      (later.0, later.1, ap (λ (n : ℕ). suc n) later.2)

  -- a line that is ignored is not read
  not_both : (line : List ℕ) (formats : List (List Directive)) (ds : List Directive) → AllByRecursion AreProper formats
      → Contains formats ds → Matches (used_whole w.options) line ds → AllByRecursion (Misses (used_whole w.options) line) formats → ⊥
  not_both line formats ds proper among (r, ran, none) missed =
      let (q, ran', some) = all_at (Misses (used_whole w.options) line) formats missed ds among in
      none_is_some (fault_of (used_whole w.options) line q) (ap (fault_of (used_whole w.options) line)
      (same_report ds (all_at AreProper formats proper ds among) line q r ran' ran) ∙ none) some

  module _ (scanned : AreScanned w) where
    same_judged : (line : List ℕ) (t u : Turn) → IsJudged w line t → IsJudged w line u → t ≡ u
    same_judged line t u (inl p) (inl q) = p.1 ∙ sym q.1
    same_judged line t u (inl p) (inr q) = absurd (omega (arith, p.0, q.0))
    same_judged line t u (inr p) (inl q) = absurd (omega (arith, p.0, q.0))
    same_judged line t u (inr (short, inl p)) (inr (short', inl q)) = p.1 ∙ sym q.1
    same_judged line t u (inr (short, inl ((ds, among, matches), is))) (inr (short', inr (read, q))) =
        absurd (not_both line w.ignored ds scanned.ignored among matches read)
    same_judged line t u (inr (short, inr (read, q))) (inr (short', inl ((ds, among, matches), is))) =
        absurd (not_both line w.ignored ds scanned.ignored among matches read)
    same_judged line t u (inr (short, inr (read, (ds, r, p, is)))) (inr (short', inr (read', (ds', r', q, is')))) =
        let same = same_pick line w.formats p.before q.before p.after q.after ds ds' r r' scanned.proper p.among q.among p.missed q.missed
        p.ran q.ran p.counts q.counts in
        is ∙ ap (λ (d : List Directive). turn_by w (number_of p) d r line) same.0
        ∙ ap (λ (x : RunReport). turn_by w (number_of p) ds' x line) same.1
        ∙ ap (λ (n : ℕ). turn_by w (n + 1) ds' r' line) same.2 ∙ sym is'

    same_turn : (number : ℕ) (line : List ℕ) (t u : Turn) → Comes w number line t → Comes w number line u → t ≡ u
    same_turn number line t u (inl p) (inl q) = p.1 ∙ sym q.1
    same_turn number line t u (inl p) (inr q) = absurd (omega (arith, p.0, q.0))
    same_turn number line t u (inr p) (inl q) = absurd (omega (arith, p.0, q.0))
    same_turn number line t u (inr p) (inr q) = same_judged line t u p.1 q.1

    pub same_turns : (n : ℕ) (lines : List (List ℕ)) (ts us : List Turn) → AreTurns w n lines ts → AreTurns w n lines us → ts ≡ us
    same_turns n [] ts us p q = p ∙ sym q
    same_turns n (line ∷ lines) [] us p q = absurd p
    same_turns n (line ∷ lines) (t ∷ ts) [] p q = absurd q
    same_turns n (line ∷ lines) (t ∷ ts) (u ∷ us) p q =
        let first : t ≡ u = same_turn (n + 1) line t u p.0 q.0 in
        let own : IfGoing (goes_on w t) (AreTurns w (n + 1) lines us) us =
        subst (λ (x : Turn). IfGoing (goes_on w x) (AreTurns w (n + 1) lines us) us) (sym first) q.1 in
        ap (λ (x : Turn). x ∷ ts) first ∙ ap (λ (y : List Turn). u ∷ y)
        (by (goes_on w t) p.1 own (λ h k. same_turns (n + 1) lines ts us h k))
      where
        by : (b : Bool) → IfGoing b (AreTurns w (n + 1) lines ts) ts → IfGoing b (AreTurns w (n + 1) lines us) us
            → (AreTurns w (n + 1) lines ts → AreTurns w (n + 1) lines us → ts ≡ us) → ts ≡ us
        by true h k same = same h k
        by false h k same = h ∙ sym k
