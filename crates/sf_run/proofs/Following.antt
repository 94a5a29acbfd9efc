-- When a run whose values are written as they are read is told.
use Rattle.std.proofs.Common.{[], ◌≡◌, ◌≢◌, ℕ, ◌+◌, ◌-◌, ◌<◌, ◌≤◌, min, false, List, ◌++◌, length, take, drop, Some, sym, ap, subst, ◌∙◌}
use Rattle.std.proofs.Common.{arith}
use Rattle.std.proofs.lemmas.List.{append-nil, length-take-le}
use Rattle.std.specs.Prelude.{slice_get}
use Rattle.sf_base.specs.Data.{Datum}
use Rattle.sf_base.specs.stores.Kept.{Kept}
use Rattle.sf_format.specs.declared.directive.Directive.{Directive}
use Rattle.sf_format.specs.Proper.{AreProper, has_group}
use Rattle.sf_run.specs.Texts.{AreSound}
use Rattle.sf_report.specs.Limits.{RunWithin}
use Rattle.sf_report.specs.Machine.{Skipping}
use Rattle.sf_report.specs.Residual.{one_from}
use Rattle.sf_report.specs.Runs.{RunReport}
use Rattle.sf_report.proofs.Told.{one_report}
use Rattle.sf_run.specs.Quick.{IsDoneWithin, done_by}
use Rattle.sf_run.specs.Written.{CanFollow, IsWritten, IsWrittenSurely, PassesWriting, text_given, texts_by}
use Rattle.sf_run.specs.declared.written.WrittenRun.{WrittenRun}
use Rattle.sf_run.specs.Counting.{Counted}
use Rattle.sf_run.proofs.Surely.{ended_of, next_of, next_passes}

-- what was written of a directive, under other names
pub written_as : (text : Datum → List ℕ) (d : Directive) (n : ℕ) (piece : List ℕ) (run run' : WrittenRun) (old room room' : List ℕ)
    → run' ≡ run → room' ≡ room → PassesWriting text d n piece run.used old (take run.end room)
    → PassesWriting text d n piece run'.used old (take run'.end room')
written_as text d n piece run run' old room room' run_is room_is w =
    subst (λ (r : WrittenRun). PassesWriting text d n piece r.used old (take r.end room')) (sym run_is)
    (subst (λ (y : List ℕ). PassesWriting text d n piece run.used old (take run.end y)) (sym room_is) w)

-- the next directive of a run that is Done within the piece, and whose texts the room has, is surely written
pub next_written : (text : Datum → List ℕ) (spare : ℕ) (ds all : List Directive) → ds ≡ all → AreSound ds → (limit most n : ℕ)
    (piece front rest : List ℕ) (p : ℕ) (d : Directive) (kept : Kept) (capacity end : ℕ) (room : List ℕ) → slice_get ds p ≡ Some d
    → front ≡ take most piece → length front ≡ most → most ≡ min limit (length piece)
    → Counted ds front rest p (record { assigned = 0; converted = 0 }) kept
    → n ≡ length front - length rest → kept.room ≡ capacity → end ≤ length room → take end room ≡ texts_by text kept.values
    → has_group all ≡ false → (done : IsDoneWithin all limit piece capacity)
    → length (texts_by text done.report.values) + spare ≤ length room
    → (free : ℕ) × IsWrittenSurely text d n rest free × (end + free + spare ≤ length room)
next_written text spare ds all same sound limit most n piece front rest p d kept capacity end room at is long least h begins roomy
    place written =
    subst (λ (l : List Directive). has_group l ≡ false → (done : IsDoneWithin l limit piece capacity)
    → length (texts_by text done.report.values) + spare ≤ length room
    → (free : ℕ) × IsWrittenSurely text d n rest free × (end + free + spare ≤ length room)) same (λ alone done fits.
    let next = next_of ds sound.0 limit most n piece front rest p d (record { assigned = 0; converted = 0 }) kept capacity at is long
    least h begins (omega (arith, roomy)) (ended_of done) in
    let passes = next_passes ds sound limit most n piece front rest p d kept capacity at is h begins alone done in
    let after : List ℕ = drop most piece in
    let whole : length (take end room) ≡ end = length-take-le end room place in
    let texts : length (take end room) ≡ length (texts_by text kept.values) = ap length written in
    let part = next.written text in (
      length (text_given text (one_from d Skipping n (rest ++ after)).end),
      record { after = after; passes = passes; early = next.early; fits = omega arith },
      omega (arith, whole, texts, part, fits),
    ))

-- a record that may follow is the one that was written
pub follows_as : (text : Datum → List ℕ) (spare : ℕ) (ds : List Directive) → AreProper ds → (limit : ℕ) (piece : List ℕ) (used : ℕ)
    (bytes : List ℕ) (room : ℕ) → CanFollow text spare ds limit piece room → (is : IsWritten text ds limit piece used bytes)
    → (0 < used) × (is.values ≢ []) × (length (texts_by text is.values) + spare ≤ room)
follows_as text spare ds proper limit piece used bytes room follows is =
    let own : RunWithin ds limit piece follows.run.ending (done_by ds used is.values) =
    subst (λ y. RunWithin ds limit y follows.run.ending (done_by ds used is.values)) (append-nil piece)
    (is.run [] follows.run.ending) in
    let only = (one_report ds proper limit piece follows.run.ending).only in
    let same : follows.run.report ≡ done_by ds used is.values = only follows.run.report follows.run.is
    ∙ sym (only (done_by ds used is.values) own) in
    let used_is = ap (λ (r : RunReport). r.used) same in
    let values_are : follows.run.report.values ≡ is.values = ap (λ (r : RunReport). r.values) same in (
      omega (arith, used_is, follows.some),
      λ none. follows.valued (values_are ∙ none),
      subst (λ v. length (texts_by text v) + spare ≤ room) values_are follows.fits,
    )
