-- What loops over the lines of one text came to, by the laws.
use Rattle.std.proofs.Common.{◌≡◌, ◌⊎◌, ℕ, Bool, true, false, if◌then◌else◌, List, [], ◌∷◌, ◌++◌, length, Option, Some, None, inl, inr}
use Rattle.std.proofs.Common.{sym, ap, subst, ◌∙◌, append-nil}
use Rattle.std.specs.Prelude.{take}
use Rattle.std.specs.List.{AllByRecursion}
use Rattle.sf_format.specs.declared.directive.Directive.{Directive}
use Rattle.sf_format.specs.Proper.{AreProper, IsAccepted}
use Rattle.sf_forms.specs.Heads.{Heading, bare}
use Rattle.sf_forms.specs.declared.form.OutputForm.TheVariants.{Json}
use Rattle.sf_forms.specs.makers.Forms.{writing_under}
use Rattle.sf_run.specs.outcome.Ending.TheVariants as endings
use Rattle.sf_read.specs.line.Cut.{lines_by, lines_of}
use Rattle.sf_read.specs.source.Ahead.{Ahead}
use Rattle.sf_read.specs.source.Counts.{counted_on}
use Rattle.sf_records.specs.by_lines.Laws.{LinesHaveOneTurn}
use Rattle.sf_records.specs.by_lines.Loops.{AllGoOn, AreTaken, AreTurns, Concludes, IsCutShort, Loops, ended, lines_for, texts}
use Rattle.sf_records.specs.by_lines.Turns.{AreScanned, LineWork, Turn, work_of}
use Rattle.sf_records.specs.declared.by_lines.end.LinesEnd.{LinesEnd}
use Rattle.sf_records.specs.declared.by_lines.end.LinesFault.TheVariants as faults
use Rattle.sf_records.specs.declared.by_lines.options.LinesOptions.{LinesOptions}
use Rattle.sf_records_tests.specs.Silence.{no_note}

-- a loop over a source that doesn't fail, which ended without a fault, wrote the turns of all lines
pub ended_lines : {S : Type 0} {to_come : S → Option (List ℕ)} (w : LineWork) (t : List ℕ) {now : Ahead S} (before after : List ℕ)
    → before ≡ [] → {silent : Bool} {told told' : Option (List ℕ)} (answer : LinesEnd)
    → Loops w to_come t now 0 0 (Some before) (Some after) silent told told' answer → answer.fault ≡ None
    → (turns : List Turn) × AreTurns w 0 (lines_of t) turns × (after ≡ texts turns) × (answer ≡ ended turns None)
ended_lines w t before after empty answer loop none = by loop.failed loop.failures_are loop.are loop.ends
  where
    by : (failed : Bool) → ◌≡◌ {A = ℕ} 0 (if failed then counted_on 0 else 0)
        → AreTurns w 0 (lines_for w.options.limit failed loop.consumed t) loop.turns
        → ((loop.later ≡ []) × (loop.part ≡ [])
        × Concludes w failed (length (lines_by endings.Fault (take loop.consumed t))) loop.done answer
        × (failed ≡ false → AreTaken w t loop.consumed loop.done))
        ⊎ ((failed ≡ false) × AllGoOn w loop.done × IsCutShort w loop.done loop.part loop.later t loop.consumed answer)
        → (turns : List Turn) × AreTurns w 0 (lines_of t) turns × (after ≡ texts turns) × (answer ≡ ended turns None)
    by true failures are ends = absurd cc
    by false failures are (inl (later, part, is, all)) = (
      loop.done,
      subst (λ (ts : List Turn). AreTurns w 0 (lines_of t) ts)
          (loop.parts ∙ ap (λ (ts : List Turn). loop.done ++ ts) later ∙ append-nil loop.done) are,
      loop.appends ∙ ap (λ (b : List ℕ). b ++ (texts loop.done ++ loop.part)) empty
          ∙ ap (λ (p : List ℕ). texts loop.done ++ p) part ∙ append-nil (texts loop.done),
      is,
    )
    by false failures are (inr (ok, goes, inl (is, begun, at))) =
        absurd (let e : None ≡ Some faults.Write = sym none ∙ ap (λ (a : LinesEnd). a.fault) is in cc)
    by false failures are (inr (ok, goes, inr (inl (is, nothing, at)))) =
        absurd (let e : None ≡ Some faults.Memory = sym none ∙ ap (λ (a : LinesEnd). a.fault) is in cc)
    by false failures are (inr (ok, goes, inr (inr (is, nothing, many)))) =
        absurd (let e : None ≡ Some faults.TooMany = sym none ∙ ap (λ (a : LinesEnd). a.fault) is in cc)

pub all_proper : (formats : List (List Directive)) → AllByRecursion IsAccepted formats → AllByRecursion AreProper formats
all_proper [] are = tt
all_proper (ds ∷ formats) are = (are.0.proper, all_proper formats are.1)

-- the turns of the lines are one thing
pub same_turns : LinesHaveOneTurn → (w : LineWork) → AreScanned w → (lines : List (List ℕ)) (turns others : List Turn)
    → AreTurns w 0 lines turns → AreTurns w 0 lines others → turns ≡ others
same_turns law w scanned lines turns others one other =
    let all = law w scanned 0 lines in all.only turns one ∙ sym (all.only others other)

-- the same of what a maker of arrays wrote
pub ended_by : {S : Type 0} {to_come : S → Option (List ℕ)} (h : Heading) → h ≡ bare Json → (options : LinesOptions)
    (formats : List (List Directive)) (t : List ℕ) {now : Ahead S} (before after : List ℕ) → before ≡ [] → {silent : Bool}
    {told told' : Option (List ℕ)} (answer : LinesEnd)
    → Loops (work_of options [] formats (writing_under h) no_note) to_come t now 0 0 (Some before) (Some after) silent told told' answer
    → answer.fault ≡ None
    → (turns : List Turn) × AreTurns (work_of options [] formats (writing_under (bare Json)) no_note) 0 (lines_of t) turns
    × (after ≡ texts turns) × (answer ≡ ended turns None)
ended_by {S} {to_come} h is options formats t {now} before after empty {silent} {told} {told'} answer loop none =
    ended_lines (work_of options [] formats (writing_under (bare Json)) no_note) t before after empty answer
    (subst (λ (k : Heading). Loops (work_of options [] formats (writing_under k) no_note) to_come t now 0 0 (Some before) (Some after)
    silent told told' answer) is loop) none
