-- What a copy by a checked pair wrote, by the laws.
use Rattle.std.proofs.Common.{◌≡◌, ◌⊎◌, ℕ, ◌+◌, ◌<◌, ◌≤◌, Bool, true, false, if◌then◌else◌, List, [], ◌∷◌, ◌++◌, length, Option}
use Rattle.std.proofs.Common.{Some, None, inl, inr, refl, sym, ap, subst, ◌∙◌, arith, length-append}
use Rattle.std.specs.List.{AllByRecursion, flat_map}
use Rattle.sf_base.specs.Data.{Datum}
use Rattle.sf_format.specs.declared.directive.Directive.{Directive}
use Rattle.sf_format.specs.declared.unit.Unit.{Unit as PrintUnit}
use Rattle.sf_pair.specs.Formats.{IsChecked}
use Rattle.sf_pair.specs.Walk.{AlignedIsAccepted}
use Rattle.sf_read.specs.source.Ahead.{Ahead}
use Rattle.sf_run.specs.outcome.Ending.TheVariants.{End}
use Rattle.sf_run.specs.Runs.{RunReport}
use Rattle.sf_records.specs.declared.end.ToolEnd.{ToolEnd}
use Rattle.sf_records.specs.declared.end.ToolFault.{ToolFault}
use Rattle.sf_records.specs.declared.end.ToolFault.TheVariants as faults
use Rattle.sf_records.specs.Copied.{AreFitting, CopyingTwiceIsCopyingOnce, IsPair, JoinedTextsGiveTheirRows, joined}
use Rattle.sf_records.specs.Copies.{copying}
use Rattle.sf_records.specs.Laws.{EachHasOneEnd}
use Rattle.sf_records.specs.Records.{EndsWith, IsCutShort, Loops, ended, ending_by, input_by, most_records, status_by}
use Rattle.sf_records.specs.Works.{Work, texts}

-- ---- an end without a fault

pub no_fault : (fault : Option ToolFault) → status_by fault ≡ 0 → fault ≡ None
no_fault None e = refl
no_fault (Some (faults.Failed number outcome)) e = absurd cc
no_fault (Some (faults.Stalled number)) e = absurd cc
no_fault (Some (faults.Unfit number)) e = absurd cc
no_fault (Some faults.TooMany) e = absurd cc
no_fault (Some (faults.Read number)) e = absurd cc
no_fault (Some faults.Write) e = absurd cc
no_fault (Some faults.Memory) e = absurd cc

-- a loop over a source that doesn't fail, which ended without a fault, wrote the records of the whole input
pub ended_cleanly : {S : Type 0} {to_come : S → Option (List ℕ)} (w : Work) (ds : List Directive) (m : ℕ) (t : List ℕ) {now : Ahead S}
    (before bytes : List ℕ) (answer : ToolEnd) → before ≡ [] → Loops w to_come ds m t now 0 0 (Some before) (Some bytes) answer
    → answer.fault ≡ None → (used : ℕ) × EndsWith w ds m t End bytes used answer
ended_cleanly w ds m t before bytes answer empty loop none = by loop.failed loop.failures_are loop.is loop.told
  where
    by : (failed : Bool) → ◌≡◌ {A = ℕ} 0 (if failed then 1 else 0)
        → EndsWith w ds m (input_by failed loop.consumed t) (ending_by failed) loop.output loop.used loop.end
        → (loop.written ≡ loop.output) × (loop.consumed ≡ loop.used) × (answer ≡ loop.end)
        ⊎ ((missing : List ℕ) × (loop.output ≡ loop.written ++ missing))
        × IsCutShort w ds m (input_by failed loop.consumed t) (ending_by failed) loop.written loop.consumed answer
        → (used : ℕ) × EndsWith w ds m t End bytes used answer
    by true failures is told = absurd cc
    by false failures is (inl (text, used, end)) = (
      loop.used,
      subst (λ (o : List ℕ). EndsWith w ds m t End o loop.used answer)
          (sym (loop.appends ∙ ap (λ (b : List ℕ). b ++ loop.written) empty ∙ text))
          (subst (λ (e : ToolEnd). EndsWith w ds m t End loop.output loop.used e) (sym end) is),
    )
    by false failures is (inr (missing, cut)) = absurd (elim cut.why [
      | inl write ↦ let e : None ≡ Some faults.Write = sym none ∙ ap (λ (e : ToolEnd). e.fault) write.0 in cc
      | inr memory ↦ let e : None ≡ Some faults.Memory = sym none ∙ ap (λ (e : ToolEnd). e.fault) memory.0 in cc
    ])

-- ---- a pair

pub is_pair : AlignedIsAccepted → (us : List PrintUnit) (ds : List Directive) → IsChecked us ds → IsPair us ds
is_pair accepted us ds checked = record {
  printed = checked.printed;
  scanned = checked.scanned;
  aligned = (accepted us ds).0 checked.found;
}

-- no text of a record is longer than all of them
parts_within : (f : RunReport → List ℕ) (rs : List RunReport) (most : ℕ) → length (flat_map f rs) ≤ most
    → AllByRecursion (λ r. length (f r) ≤ most) rs
parts_within f [] most low = tt
parts_within f (r ∷ rs) most low =
    let all : length (flat_map f (r ∷ rs)) ≡ length (f r) + length (flat_map f rs) = length-append (f r) (flat_map f rs) in
    (omega (arith, low, all), parts_within f rs most (omega (arith, low, all)))

module _ (accepted : AlignedIsAccepted) (one : EachHasOneEnd) (us : List PrintUnit) (ds : List Directive) (checked : IsChecked us ds) where
  abbrev w : Work
  w = copying us ds

  abbrev most : ℕ
  most = 2147483647

  same_end : (m : ℕ) (x : List ℕ) (o p : List ℕ) (u v : ℕ) (e f : ToolEnd) → EndsWith w ds m x End o u e → EndsWith w ds m x End p v f
      → (o ≡ p) × (e ≡ f)
  same_end m x o p u v e f h k =
      let all = one w ds checked.scanned.proper m x End in
      let a = all.only o u e h in
      let b = all.only p v f k in
      (a.0 ∙ sym b.0, a.2 ∙ sym b.2)

  -- a copy of the joined texts of rows
  pub rows_copied : JoinedTextsGiveTheirRows → (rows : List (List Datum)) → length rows < most_records → AreFitting us ds most rows
      → (text bytes : List ℕ) (used : ℕ) (end : ToolEnd) → text ≡ joined us rows → EndsWith w ds most text End bytes used end
      → (bytes ≡ text) × (end.records ≡ length rows)
  rows_copied law rows few fitting text bytes used end is ends =
      let all = law us ds (is_pair accepted us ds checked) most (omega arith) rows few fitting in
      let same = same_end most (joined us rows) bytes (texts w all.copied.reports) used (length (joined us rows)) end
      (ended (length rows) None) (subst (λ (t : List ℕ). EndsWith w ds most t End bytes used end) is ends) all.copied.ends in
      (same.0 ∙ all.same ∙ sym is, ap (λ (e : ToolEnd). e.records) same.1)

  -- a copy of a copy
  pub copied_same : CopyingTwiceIsCopyingOnce → (x o p : List ℕ) (u v : ℕ) (e f : ToolEnd) → EndsWith w ds most x End o u e
      → e.fault ≡ None → length o ≤ most → EndsWith w ds most o End p v f → (p ≡ o) × (f.records ≡ e.records)
  copied_same law x o p u v e f first none few second =
      let size : length o ≡ length (texts w first.written) + length first.tail =
      ap (λ (t : List ℕ). length t) first.output_is ∙ length-append (texts w first.written) first.tail in
      let again = law us ds (is_pair accepted us ds checked) most x o End u e first none most (omega arith)
      (parts_within w.text first.written most (omega (arith, size, few))) in
      let same = same_end most o p o v (length o) f e second again in
      (same.0, ap (λ (e : ToolEnd). e.records) same.1)
