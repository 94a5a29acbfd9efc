use Rattle.std.proofs.Common.{◌≡◌, ◌+◌, ◌-◌, ◌∷◌, ◌∙◌, ℕ, List, length, drop}
use Rattle.std.proofs.Common.{refl, sym, ap, Some, arith, subst, length-drop}
use Rattle.std.specs.Prelude.{slice_get}
use Rattle.sf_base.specs.stores.Kept.{Kept}
use Rattle.sf_format.specs.declared.directive.Directive.{Directive}
use Rattle.sf_format.specs.declared.layout.Row.{Row}
use Rattle.sf_run.specs.Counting.{Counted, HasCome}
use Rattle.sf_run.proofs.AtOnce.{come_of, counting, free_at, placed}
use Rattle.sf_run.proofs.Moves.{sound_at, sound_of}
use Rattle.sf_run.proofs.RowsLeft.{as_many, first_left, from_end, left_next, nothing_left, opens, there}
use Rattle.sf_run.proofs.Slots.{apart_from}
use Rattle.sf_run.proofs.quick.run_rows.Goals as goal

pub pass-requires-clause-first : goal.pass-requires-clause-first
pass-requires-clause-first g c =
    from_end c.rows-rows.result.now c.directives-directives.result.now c.args.format.now (length c.loop-row.left.now) _ c.rows-rows.ensures
    c.directives-directives.ensures.value
    (there c.rows-rows.result.now c.directives-directives.result.now _ c.loop-row.left.now c.in-Some.row.now _ c.rows-rows.ensures
    c.directives-directives.ensures.value c.loop-row.invariant.short c.in-Some.ensures.value c.index-directives-at.is)

pub pass-requires-clause-within : goal.pass-requires-clause-within
pass-requires-clause-within g c =
    let ds = c.directives-directives in
    let many = as_many c.rows-rows.result.now ds.result.now _ c.rows-rows.ensures ds.ensures.value in
    let same = ap length ds.ensures.value in
    let short = c.loop-row.invariant.short in
    omega (arith, many, same, short)

pub pass-requires-clause-opened : goal.pass-requires-clause-opened
pass-requires-clause-opened g c =
    let ds = c.directives-directives in
    let come = subst (λ (l : List Directive). HasCome l c.args.front.now c.args.place c.requires.come.0 (g.S.Store.kept c.args.store.now))
    (sym ds.ensures.value) c.requires.come.1 in
    (c.loop-row.invariant.counted c.requires.come.0 come).going.opened

pub pass-requires-clause-free : goal.pass-requires-clause-free
pass-requires-clause-free g c =
    let ds = c.directives-directives in
    let come = subst (λ (l : List Directive). HasCome l c.args.front.now c.args.place c.requires.come.0 (g.S.Store.kept c.args.store.now))
    (sym ds.ensures.value) c.requires.come.1 in
    free_at g.S.Store.slots ds.result.now _ _ (g.S.Store.kept c.loop-row.store).values
    (there c.rows-rows.result.now c.directives-directives.result.now _ c.loop-row.left.now c.in-Some.row.now _ c.rows-rows.ensures
    c.directives-directives.ensures.value c.loop-row.invariant.short c.in-Some.ensures.value c.index-directives-at.is)
    (placed g.S.Store.slots ds.result.now _ ds.ensures.value c.requires.slots ds.ensures.slots) (apart_from _ ds.ensures.slots.distinct)
    (c.loop-row.invariant.counted c.requires.come.0 come).going.given

pub pass-requires-clause-row : goal.pass-requires-clause-row
pass-requires-clause-row g c =
    let ds = c.directives-directives in
    let rows : List Row = c.rows-rows.result.now in
    let left : List Row = c.loop-row.left.now in
    first_left rows ds.result.now _ left (drop 1 left) c.in-Some.row.now _ c.index-directives-at.result c.rows-rows.ensures
    ds.ensures.value c.loop-row.invariant.ahead (opens left c.in-Some.row.now c.in-Some.ensures.value)
    (there c.rows-rows.result.now c.directives-directives.result.now _ c.loop-row.left.now c.in-Some.row.now _ c.rows-rows.ensures
    c.directives-directives.ensures.value c.loop-row.invariant.short c.in-Some.ensures.value c.index-directives-at.is)

pub loop-row-init : goal.loop-row-init
loop-row-init g c =
    let rows : List Row = c.rows-rows.result.now in
    let ds = c.directives-directives.result.now in
    let front : List ℕ = c.args.front.now in
    let many = as_many rows ds _ c.rows-rows.ensures c.directives-directives.ensures.value in
    let same = ap length c.directives-directives.ensures.value in
    let most = c.requires.left in
    let back = c.split_at.ensures.back in
    let long = ap length back ∙ length-drop (length rows - c.args.place.left) rows in
    let rest = c.split_at-2.ensures.back in
    let short = ap length rest ∙ length-drop c.args.place.used front in
    record {
      short = omega (arith, long);
      fewer = omega (arith, long, most, many, same);
      ahead = back ∙ ap (λ n. drop n rows) (omega (arith, long, most, many, same));
      low = omega (arith, short);
      counted = λ missing come.
          subst (λ n. Counted ds front c.split_at-2.result.1.now n missing (g.S.Store.kept c.args.store.now))
          (omega (arith, long, most, many, same))
          (subst (λ (tail : List ℕ). Counted ds front tail (length ds - c.args.place.left) missing (g.S.Store.kept c.args.store.now))
          (sym rest) come);
      room = omega arith;
    }

pub loop-row-preserved : goal.loop-row-preserved
loop-row-preserved g c =
    let ds = c.directives-directives in
    let rows : List Row = c.rows-rows.result.now in
    let left : List Row = c.loop-row.left.now in
    let i : ℕ = length rows - length left in
    let d : Directive = c.index-directives-at.result in
    let at' : slice_get ds.result.now i ≡ Some d = there rows ds.result.now _ left c.in-Some.row.now d c.rows-rows.ensures ds.ensures.value
    c.loop-row.invariant.short c.in-Some.ensures.value c.index-directives-at.is in
    let sound = sound_at ds.result.now i d (sound_of ds.result.now _ ds.ensures.value ds.ensures.proper ds.ensures.accepted) at' in
    let front : List ℕ = c.args.front.now in
    let rest : List ℕ = c.loop-row.rest.now in
    let old : Kept = g.S.Store.kept c.loop-row.store in
    let new : Kept = g.S.Store.kept c.pass.new.store in
    let n : ℕ = length front - length rest in
    let others : List Row = c.split_at-in-Some-2.result.1.now in
    let first : left ≡ c.in-Some.row.now ∷ others =
    opens left c.in-Some.row.now c.in-Some.ensures.value
    ∙ ap (λ (l : List Row). c.in-Some.row.now ∷ l) (sym c.split_at-in-Some-2.ensures.back) in
    let short = c.loop-row.invariant.short in
    let fewer = c.loop-row.invariant.fewer in
    let low = c.loop-row.invariant.low in
    let one : length left ≡ length others + 1 = ap length first ∙ omega arith in
    let next : i + 1 ≡ length rows - length others = omega (arith, short, one) in
    let on : List ℕ = c.split_at-in-Some.result.1.now in
    let back = c.split_at-in-Some.ensures.back in
    let less = ap length back ∙ length-drop c.in-Some-pass.taken rest in
    record {
      short = omega (arith, short, one);
      fewer = omega (arith, fewer, one);
      ahead = left_next rows left others c.in-Some.row.now short c.loop-row.invariant.ahead first;
      low = omega (arith, low, less);
      counted = λ missing come.
          subst (λ k. Counted ds.result.now front on k missing new) next
          ((counting ds.result.now front rest on i d n missing old new _ at' (c.loop-row.invariant.counted missing come) refl
          (c.in-Some-pass.ensures.passes sound) back).0 refl);
      room = (let before = c.loop-row.invariant.room in let more = c.pass.ensures.room in omega (arith, before, more));
    }

pub returns-in_default-pass-clause-come : goal.returns-in_default-pass-clause-come
returns-in_default-pass-clause-come g c = λ missing come.
    let ds = c.directives-directives in
    let rows : List Row = c.rows-rows.result.now in
    let left : List Row = c.loop-row.left.now in
    come_of ds.result.now c.args.format.now c.args.front.now c.loop-row.rest.now (length rows - length left) c.args.place
    (record { left = length left; used = length c.args.front.now - length c.loop-row.rest.now }) missing
    (g.S.Store.kept c.args.store.now) (g.S.Store.kept c.loop-row.store) (g.S.Store.kept c.pass.new.store)
    (c.in_default-pass.ensures.same refl) ds.ensures.value
    (ap (λ n. n - length left) (as_many rows ds.result.now _ c.rows-rows.ensures ds.ensures.value)) refl
    (c.loop-row.invariant.counted missing) come

pub returns-clause-come : goal.returns-clause-come
returns-clause-come g c = λ missing come.
    let ds = c.directives-directives in
    let rows : List Row = c.rows-rows.result.now in
    let left : List Row = c.loop-row.left.now in
    let none : length left ≡ 0 = nothing_left left c.in_default.ensures.value in
    come_of ds.result.now c.args.format.now c.args.front.now c.loop-row.rest.now (length rows - length left) c.args.place
    (record { left = 0; used = length c.args.front.now - length c.loop-row.rest.now }) missing
    (g.S.Store.kept c.args.store.now) (g.S.Store.kept c.loop-row.store) (g.S.Store.kept c.loop-row.store)
    refl ds.ensures.value
    (ap (λ n. n - length left) (as_many rows ds.result.now _ c.rows-rows.ensures ds.ensures.value)
    ∙ ap (λ n. length ds.result.now - n) none) refl
    (c.loop-row.invariant.counted missing) come
