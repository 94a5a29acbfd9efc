use Rattle.std.proofs.Common.{◌≡◌, ◌<◌, ◌≤◌, ◌+◌, ◌-◌, ◌∷◌, ◌++◌, ◌∙◌, ℕ, List, length, drop, take, refl, sym, ap, Some, arith, subst}
use Rattle.std.proofs.lemmas.List.{length-drop, take_all}
use Rattle.std.proofs.lemmas.Option.{slice_get_read}
use Rattle.std.specs.Prelude.{slice_get}
use Rattle.sf_base.specs.stores.Kept.{Kept, nothing_kept}
use Rattle.sf_format.specs.declared.directive.Directive.{Directive}
use Rattle.sf_format.specs.declared.layout.Row.{Row}
use Rattle.sf_format.specs.Proper.{slots_of}
use Rattle.sf_run.specs.Written.{IsWritten, PassesWriting, text_given}
use Rattle.sf_run.specs.declared.written.WrittenRun.{WrittenRun}
use Rattle.sf_run.specs.Counting.{Counted}
use Rattle.sf_run.proofs.AtOnce.{counted_run, counting_on, nothing_counted, some_slot}
use Rattle.sf_run.proofs.Moves.{sound_at, sound_of}
use Rattle.sf_run.proofs.RowsLeft.{as_many, first_left, from_end, left_next, nothing_left, opens, still_left}
use Rattle.sf_run.proofs.Following.{next_written, written_as}
use Rattle.sf_run.proofs.Writing.{keeps, kept_with, text_after}
use Rattle.sf_run.proofs.written.write_values.Goals as goal
use Rattle.sf_run.proofs.written.write_values.Goals.{in-None+in_ok-passed-in-None}
use Rattle.sf_run.proofs.written.write_values.Goals.{in-Some-ended_at_once+in_ok-passed-in-Some-ended_at_once}

pub ended_at_once-requires-clause-row : goal.ended_at_once-requires-clause-row
ended_at_once-requires-clause-row g c =
    let ds = c.directives-directives in
    let rows : List Row = c.rows-rows.result.now in
    let left : List Row = c.loop-row.left.now in
    let i : ℕ = length rows - length left in
    let within : i < length ds.result.now = still_left rows ds.result.now _ left (drop 1 left) c.in-Some.row.now c.rows-rows.ensures
    ds.ensures.value c.loop-row.invariant.short (opens left c.in-Some.row.now c.in-Some.ensures.value) in
    let at : slice_get ds.result.now i ≡ Some c.index-directives-at.result =
    slice_get_read ds.result.now (length ds.result.now) i c.index-directives-at.result refl within c.index-directives-at.is in
    first_left rows ds.result.now _ left (drop 1 left) c.in-Some.row.now i c.index-directives-at.result c.rows-rows.ensures
    ds.ensures.value c.loop-row.invariant.ahead (opens left c.in-Some.row.now c.in-Some.ensures.value) at

pub ended_at_once-requires-clause-first : goal.ended_at_once-requires-clause-first
ended_at_once-requires-clause-first g c =
    let ds = c.directives-directives in
    let rows : List Row = c.rows-rows.result.now in
    let left : List Row = c.loop-row.left.now in
    let i : ℕ = length rows - length left in
    let within : i < length ds.result.now = still_left rows ds.result.now _ left (drop 1 left) c.in-Some.row.now c.rows-rows.ensures
    ds.ensures.value c.loop-row.invariant.short (opens left c.in-Some.row.now c.in-Some.ensures.value) in
    from_end rows ds.result.now c.args.format.now (length left) c.index-directives-at.result c.rows-rows.ensures ds.ensures.value
    (slice_get_read ds.result.now (length ds.result.now) i c.index-directives-at.result refl within c.index-directives-at.is)

pub loop-row-init : goal.loop-row-init
loop-row-init g c =
    let rows : List Row = c.rows-rows.result.now in
    let ds = c.directives-directives.result.now in
    let front : List ℕ = c.split_at.result.0.now in
    let none : length rows - length rows ≡ 0 = omega arith in
    record {
      short = omega arith;
      ahead = ap (λ n. drop n rows) (sym none);
      place = omega arith;
      low = omega arith;
      counted = λ capacity. (
        nothing_kept capacity,
        subst (λ n. Counted ds front front n (record { assigned = 0; converted = 0 }) (nothing_kept capacity)) (sym none)
            (nothing_counted ds front (nothing_kept capacity) capacity refl c.directives-directives.ensures.few),
        refl,
        refl,
        ap (λ n. slots_of (take n ds)) {x = 0} {y = length rows - length rows} (sym none),
      );
    }

pub loop-row-preserved : goal.loop-row-preserved
loop-row-preserved g c =
    let text = g.W.ValueWriter.text in
    let ds = c.directives-directives in
    let rows : List Row = c.rows-rows.result.now in
    let left : List Row = c.loop-row.left.now in
    let i : ℕ = length rows - length left in
    let within : i < length ds.result.now = still_left rows ds.result.now _ left (drop 1 left) c.in-Some.row.now c.rows-rows.ensures
    ds.ensures.value c.loop-row.invariant.short (opens left c.in-Some.row.now c.in-Some.ensures.value) in
    let d : Directive = c.index-directives-at.result in
    let at : slice_get ds.result.now i ≡ Some d = slice_get_read ds.result.now
    (length ds.result.now) i d refl within c.index-directives-at.is in
    let sound = sound_at ds.result.now i d (sound_of ds.result.now _ ds.ensures.value ds.ensures.proper ds.ensures.accepted) at in
    let front : List ℕ = c.split_at.result.0.now in
    let rest : List ℕ = c.loop-row.rest.now in
    let others : List Row = c.split_at-in-Some-2.result.1.now in
    let first : left ≡ c.in-Some.row.now ∷ others =
    opens left c.in-Some.row.now c.in-Some.ensures.value
    ∙ ap (λ (l : List Row). c.in-Some.row.now ∷ l) (sym c.split_at-in-Some-2.ensures.back) in
    let short = c.loop-row.invariant.short in
    let one : length left ≡ length others + 1 = ap length first ∙ omega arith in
    let next : i + 1 ≡ length rows - length others = omega (arith, short, one) in
    let n : ℕ = length front - length rest in
    let old : List ℕ = take c.loop-row.end c.loop-row.room in
    let passed = c.match-ended_at_once.passed in
    let later : slice_get c.args.format.now (length c.args.format.now - length left) ≡ Some d =
    from_end rows ds.result.now c.args.format.now (length left) d c.rows-rows.ensures ds.ensures.value at in
    let w : PassesWriting text d n rest passed.used old (take passed.end c.match-ended_at_once.room) =
    elim c.match-ended_at_once.branch [
      | in-Some-ended_at_once+in_ok-passed-in-Some-ended_at_once w ↦
          written_as text d n rest _ passed old _ _ w.passed-is w.room-is (w.in_ok-passed-in-Some-ended_at_once.ensures.passes sound)
      | in-None+in_ok-passed-in-None w ↦
          written_as text d n rest _ passed old _ _ w.passed-is w.room-is (w.in_ok-passed-in-None.ensures.passes d later sound)
    ] in
    let place : passed.end ≤ length c.match-ended_at_once.room =
    elim c.match-ended_at_once.branch [
      | in-Some-ended_at_once+in_ok-passed-in-Some-ended_at_once w ↦
          (let is = ap (λ (r : WrittenRun). r.end) w.passed-is in
          let on = ap length w.room-is in
          let low = w.in_ok-passed-in-Some-ended_at_once.ensures.place in
          omega (arith, is, on, low))
      | in-None+in_ok-passed-in-None w ↦
          (let is = ap (λ (r : WrittenRun). r.end) w.passed-is in
          let on = ap length w.room-is in
          let low = w.in_ok-passed-in-None.ensures.place in
          omega (arith, is, on, low))
    ] in
    record {
      short = omega (arith, short, one);
      ahead = left_next rows left others c.in-Some.row.now short c.loop-row.invariant.ahead first;
      place = place;
      low = (let on = ap length c.split_at-in-Some.ensures.back ∙ length-drop passed.used rest in let low = c.loop-row.invariant.low in
          omega (arith, on, low));
      counted = λ capacity.
          let so_far = c.loop-row.invariant.counted capacity in
          let kept : Kept = so_far.0 in
          let new : Kept = kept_with w.end kept in (
            new,
            subst (λ k. Counted ds.result.now front c.split_at-in-Some.result.1.now k (record { assigned = 0; converted = 0 }) new) next
                (counting_on ds.result.now front rest c.split_at-in-Some.result.1.now i d n (record { assigned = 0; converted = 0 }) kept
                new
                passed.used at so_far.1 refl (keeps text d n rest passed.used _ _ kept w) c.split_at-in-Some.ensures.back),
            w.written ∙ ap (λ (t : List ℕ). t ++ text_given text w.end) so_far.2 ∙ sym (text_after text w.end kept.values),
            so_far.3,
            some_slot ds.result.now i d kept.values w.end at w.own w.passes so_far.4
                ∙ ap (λ k. slots_of (take k ds.result.now)) {x = i + 1} {y = length rows - length others} next,
          );
    }

pub returns-in_err-passed-in-Some-ended_at_once-clause-answers : goal.returns-in_err-passed-in-Some-ended_at_once-clause-answers
returns-in_err-passed-in-Some-ended_at_once-clause-answers g c alone capacity done fits =
    let ds = c.directives-directives in
    let rows : List Row = c.rows-rows.result.now in
    let left : List Row = c.loop-row.left.now in
    let i : ℕ = length rows - length left in
    let within : i < length ds.result.now = still_left rows ds.result.now _ left (drop 1 left) c.in-Some.row.now c.rows-rows.ensures
    ds.ensures.value c.loop-row.invariant.short (opens left c.in-Some.row.now c.in-Some.ensures.value) in
    let d : Directive = c.index-directives-at.result in
    let at : slice_get ds.result.now i ≡ Some d = slice_get_read ds.result.now
    (length ds.result.now) i d refl within c.index-directives-at.is in
    let sound = sound_at ds.result.now i d (sound_of ds.result.now _ ds.ensures.value ds.ensures.proper ds.ensures.accepted) at in
    let front : List ℕ = c.split_at.result.0.now in
    let rest : List ℕ = c.loop-row.rest.now in
    let so_far = c.loop-row.invariant.counted capacity in
    let wide = c.loop-row.auto.room in
    let h = next_written g.W.ValueWriter.text g.W.ValueWriter.spare ds.result.now c.args.format.now ds.ensures.value
    (sound_of ds.result.now _ ds.ensures.value ds.ensures.proper ds.ensures.accepted) c.args.limit c.min-most.result (length front - length
    rest) c.args.piece.now front rest i d so_far.0 capacity c.loop-row.end
    c.loop-row.room at c.split_at.ensures.front c.split_at.ensures.front_len c.min-most.ensures so_far.1 refl so_far.3
    c.loop-row.invariant.place so_far.2 alone done (omega (arith, fits, wide)) in
    absurd (let r = c.in_err-passed-in-Some-ended_at_once.ensures.sure sound h.0 h.1 h.2 in cc)

pub returns-in_err-passed-in-None-clause-answers : goal.returns-in_err-passed-in-None-clause-answers
returns-in_err-passed-in-None-clause-answers g c alone capacity done fits =
    let ds = c.directives-directives in
    let rows : List Row = c.rows-rows.result.now in
    let left : List Row = c.loop-row.left.now in
    let i : ℕ = length rows - length left in
    let within : i < length ds.result.now = still_left rows ds.result.now _ left (drop 1 left) c.in-Some.row.now c.rows-rows.ensures
    ds.ensures.value c.loop-row.invariant.short (opens left c.in-Some.row.now c.in-Some.ensures.value) in
    let d : Directive = c.index-directives-at.result in
    let at : slice_get ds.result.now i ≡ Some d = slice_get_read ds.result.now
    (length ds.result.now) i d refl within c.index-directives-at.is in
    let sound = sound_at ds.result.now i d (sound_of ds.result.now _ ds.ensures.value ds.ensures.proper ds.ensures.accepted) at in
    let front : List ℕ = c.split_at.result.0.now in
    let rest : List ℕ = c.loop-row.rest.now in
    let so_far = c.loop-row.invariant.counted capacity in
    let wide = c.loop-row.auto.room in
    let h = next_written g.W.ValueWriter.text g.W.ValueWriter.spare ds.result.now c.args.format.now ds.ensures.value
    (sound_of ds.result.now _ ds.ensures.value ds.ensures.proper ds.ensures.accepted) c.args.limit c.min-most.result (length front - length
    rest) c.args.piece.now front rest i d so_far.0 capacity c.loop-row.end
    c.loop-row.room at c.split_at.ensures.front c.split_at.ensures.front_len c.min-most.ensures so_far.1 refl so_far.3
    c.loop-row.invariant.place so_far.2 alone done (omega (arith, fits, wide)) in
    let later : slice_get c.args.format.now (length c.args.format.now - length left) ≡ Some d =
    from_end rows ds.result.now c.args.format.now (length left) d c.rows-rows.ensures ds.ensures.value at in
    absurd (let r = c.in_err-passed-in-None.ensures.sure d later sound h.0 h.1 h.2 in cc)

pub returns-clause-run : goal.returns-clause-run
returns-clause-run g c =
    let ds = c.directives-directives in
    let rows : List Row = c.rows-rows.result.now in
    let left : List Row = c.loop-row.left.now in
    let front : List ℕ = c.split_at.result.0.now in
    let rest : List ℕ = c.loop-row.rest.now in
    let so_far = c.loop-row.invariant.counted 0 in
    let kept : Kept = so_far.0 in
    let counted = so_far.1 in
    let many = as_many rows ds.result.now _ c.rows-rows.ensures ds.ensures.value in
    let none : length left ≡ 0 = nothing_left left c.in_default.ensures.value in
    let all : length ds.result.now ≤ length rows - length left = omega (arith, many, none) in
    subst (λ (l : List Directive). IsWritten g.W.ValueWriter.text l c.args.limit c.args.piece.now (length front - length rest)
    (take c.loop-row.end c.loop-row.room)) ds.ensures.value (record {
      values = kept.values;
      run = λ z ending.
          counted_run ds.result.now ds.ensures.proper c.args.limit c.min-most.result c.args.piece.now front rest kept
          (length rows - length left) all c.split_at.ensures.front
          (let long = c.split_at.ensures.front_len in let least = c.min-most.ensures in
          omega (arith, long, least)) counted z ending;
      slots = so_far.4 ∙ ap slots_of (take_all (length rows - length left) ds.result.now all);
      written = so_far.2;
    })
