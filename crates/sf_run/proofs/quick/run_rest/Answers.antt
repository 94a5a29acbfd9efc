use Rattle.std.proofs.Common.{◌≡◌, ◌<◌, ◌≤◌, ◌+◌, ◌-◌, ℕ, List, length, take, drop}
use Rattle.std.proofs.Common.{suc, ◌∙◌, ◌++◌, refl, sym, ap, Some, arith, subst, get_or}
use Rattle.std.proofs.lemmas.Option.{slice_get_read}
use Rattle.std.specs.Prelude.{slice_get}
use Rattle.sf_base.specs.stores.Kept.{Kept}
use Rattle.sf_format.specs.declared.directive.Directive.{Directive}
use Rattle.sf_format.specs.Layout.{items_assigned, items_taken}
use Rattle.sf_format.specs.Proper.{more_of}
use Rattle.sf_report.specs.declared.outcome.Outcome.{Outcome}
use Rattle.sf_report.specs.Limits.{RunWithin}
use Rattle.sf_report.specs.Views.{report_by}
use Rattle.sf_run.specs.Counting.{HasCome}
use Rattle.sf_run.specs.Quick.{EndsSo, IsEndedWithin, IsSure}
use Rattle.sf_run.specs.declared.quick.Place.{Place}
use Rattle.sf_run.proofs.AtOnce.{after_place, come_done, come_failed, come_on, free_at, gone_fits, placed}
use Rattle.sf_run.proofs.Moves.{sound_at, sound_of}
use Rattle.sf_run.proofs.Slots.{apart_from}
use Rattle.sf_run.proofs.Surely.{sure_next}
use Rattle.sf_run.proofs.quick.run_rest.Goals as goal
use Rattle.sf_run.proofs.quick.run_rest.Goals.{in-Passes, in-Misses}

at_place : (ds : List Directive) (left : ℕ) (d : Directive) → 0 < left → left ≤ length ds → d ≡ get_or ds (length ds - left) d
    → slice_get ds (length ds - left) ≡ Some d
at_place ds left d some most is = slice_get_read ds (length ds) (length ds - left) d refl (omega (arith, some, most)) is

pub pass_whole-requires-clause-free : goal.pass_whole-requires-clause-free
pass_whole-requires-clause-free g c =
    let ds = c.directives-directives in
    free_at g.S.Store.slots ds.result.now _ _ (g.S.Store.kept c.loop-come.store).values
    (at_place ds.result.now c.loop-come.come.left c.index-directives-at.result c.loop-come-test.true c.loop-come.invariant.short
    c.index-directives-at.is)
    (placed g.S.Store.slots ds.result.now _ ds.ensures.value c.requires.slots ds.ensures.slots) (apart_from _ ds.ensures.slots.distinct)
    c.loop-come.invariant.come.going.given

pub returns-in_err-passage-clause-answers : goal.returns-in_err-passage-clause-answers
returns-in_err-passage-clause-answers g c capacity roomy ended =
    let ds = c.directives-directives in
    let come = c.loop-come.come in
    let d : Directive = c.index-directives-at.result in
    let front : List ℕ = c.split_at.result.0.now in
    let rest : List ℕ = c.split_at-in-loop-come.result.1.now in
    let old : Kept = g.S.Store.kept c.loop-come.store in
    let at = at_place ds.result.now come.left d c.loop-come-test.true c.loop-come.invariant.short c.index-directives-at.is in
    let sound = sound_at ds.result.now _ d (sound_of ds.result.now _ ds.ensures.value ds.ensures.proper ds.ensures.accepted) at in
    let own : IsEndedWithin ds.result.now c.args.limit c.args.piece.now capacity =
    subst (λ (l : List Directive). IsEndedWithin l c.args.limit c.args.piece.now capacity) (sym ds.ensures.value) ended in
    let back = c.split_at-in-loop-come.ensures.back in
    let room = c.loop-come.invariant.room in
    let sure : IsSure d come.used (drop come.used front) old.room =
    sure_next ds.result.now ds.ensures.proper c.args.limit c.min-most.result come.used c.args.piece.now front (drop come.used front)
    (length ds.result.now - come.left) d c.loop-come.missing old capacity at
    c.split_at.ensures.front c.split_at.ensures.front_len c.min-most.ensures c.loop-come.invariant.come
    (after_place front come.used c.loop-come.invariant.low) (omega (arith, roomy, room)) own in
    let here : IsSure d come.used rest old.room = subst (λ (y : List ℕ). IsSure d come.used y old.room) (sym back) sure in
    absurd (let h = c.in_err-passage.ensures.sure sound here in cc)

pub returns-in-Fails-clause-run : goal.returns-in-Fails-clause-run
returns-in-Fails-clause-run g c = λ z ending.
    let ds = c.directives-directives in
    let come = c.loop-come.come in
    let d : Directive = c.index-directives-at.result in
    let front : List ℕ = c.split_at.result.0.now in
    let old : Kept = g.S.Store.kept c.loop-come.store in
    let new : Kept = g.S.Store.kept c.pass_whole.new.store in
    let passage = c.in_ok-passage.passage in
    let at = at_place ds.result.now come.left d c.loop-come-test.true c.loop-come.invariant.short c.index-directives-at.is in
    let sound = sound_at ds.result.now _ d (sound_of ds.result.now _ ds.ensures.value ds.ensures.proper ds.ensures.accepted) at in
    let o : Outcome = c.failed.result in
    let same = ap length ds.ensures.value in
    subst (λ (l : List Directive). RunWithin l c.args.limit (c.args.piece.now ++ z) ending (report_by o new.values)) ds.ensures.value
    (come_failed ds.result.now ds.ensures.proper c.args.limit c.min-most.result c.args.piece.now front come c.loop-come.missing old new d
    passage c.in-Fails.status o at c.loop-come.invariant.low c.split_at.ensures.front
    (let long = c.split_at.ensures.front_len in let least = c.min-most.ensures in omega (arith, long, least))
    c.loop-come.invariant.come
    (subst (λ (y : List ℕ). EndsSo d come.used y passage old new) c.split_at-in-loop-come.ensures.back
    (c.in_ok-passage.ensures.ends sound))
    c.in-Fails.is c.failed.ensures.status c.failed.ensures.at c.failed.ensures.used
    (subst (λ (l : List Directive). o.assigned ≡ items_assigned (take (length ds.result.now - come.left) l) - c.loop-come.missing.assigned)
    (sym ds.ensures.value) c.failed.ensures.assigned)
    (subst (λ (l : List Directive). o.converted ≡ items_taken (take (length ds.result.now - come.left) l) - c.loop-come.missing.converted)
    (sym ds.ensures.value) c.failed.ensures.converted)
    c.failed.ensures.met z ending)

pub run_rows-come-requires-clause-come : goal.run_rows-come-requires-clause-come
run_rows-come-requires-clause-come g c =
    let ds = c.directives-directives in
    let come = c.loop-come.come in
    let d : Directive = c.index-directives-at.result in
    let front : List ℕ = c.split_at.result.0.now in
    let old : Kept = g.S.Store.kept c.loop-come.store in
    let new : Kept = g.S.Store.kept c.pass_whole.new.store in
    let passage = c.in_ok-passage.passage in
    let m = c.match-passage in
    let next : Place = record { left = come.left - m.ended; used = come.used + passage.taken } in
    let at = at_place ds.result.now come.left d c.loop-come-test.true c.loop-come.invariant.short c.index-directives-at.is in
    let sound = sound_at ds.result.now _ d (sound_of ds.result.now _ ds.ensures.value ds.ensures.proper ds.ensures.accepted) at in
    let on = come_on ds.result.now front come next d c.loop-come.missing old new passage m.ended at c.loop-come-test.true
    c.loop-come.invariant.short c.loop-come.invariant.low c.loop-come.invariant.come
    (subst (λ (y : List ℕ). EndsSo d come.used y passage old new) c.split_at-in-loop-come.ensures.back
    (c.in_ok-passage.ensures.ends sound)) refl refl in
    let here : HasCome c.args.format.now front next m.missing new =
    subst (λ (l : List Directive). HasCome l front next m.missing new) ds.ensures.value (elim m.branch [
      | in-Passes w ↦ subst (λ x. HasCome ds.result.now front next x new) (sym w.missing-is) (on.0 w.in-Passes.is w.ended-is)
      | in-Misses w ↦
          subst (λ x. HasCome ds.result.now front next x new) (sym w.missing-is)
          (on.1 w.with-missing.result w.missed-missed.result.now w.in-Misses.is w.ended-is
          (w.missed-missed.ensures ∙ ap (take (suc (more_of d))) w.split_at-in-Misses.ensures.back)
          w.with-missing.ensures.assigned w.with-missing.ensures.converted)
    ]) in
    (m.missing, here)

pub loop-come-preserved : goal.loop-come-preserved
loop-come-preserved g c =
    let ds = c.directives-directives in
    let come = c.loop-come.come in
    let d : Directive = c.index-directives-at.result in
    let front : List ℕ = c.split_at.result.0.now in
    let old : Kept = g.S.Store.kept c.loop-come.store in
    let new : Kept = g.S.Store.kept c.pass_whole.new.store in
    let passage = c.in_ok-passage.passage in
    let m = c.match-passage in
    let next : Place = record { left = come.left - m.ended; used = come.used + passage.taken } in
    let at = at_place ds.result.now come.left d c.loop-come-test.true c.loop-come.invariant.short c.index-directives-at.is in
    let sound = sound_at ds.result.now _ d (sound_of ds.result.now _ ds.ensures.value ds.ensures.proper ds.ensures.accepted) at in
    let on = come_on ds.result.now front come next d c.loop-come.missing old new passage m.ended at c.loop-come-test.true
    c.loop-come.invariant.short c.loop-come.invariant.low c.loop-come.invariant.come
    (subst (λ (y : List ℕ). EndsSo d come.used y passage old new) c.split_at-in-loop-come.ensures.back
    (c.in_ok-passage.ensures.ends sound)) refl refl in
    let here : HasCome c.args.format.now front next m.missing new =
    subst (λ (l : List Directive). HasCome l front next m.missing new) ds.ensures.value (elim m.branch [
      | in-Passes w ↦ subst (λ x. HasCome ds.result.now front next x new) (sym w.missing-is) (on.0 w.in-Passes.is w.ended-is)
      | in-Misses w ↦
          subst (λ x. HasCome ds.result.now front next x new) (sym w.missing-is)
          (on.1 w.with-missing.result w.missed-missed.result.now w.in-Misses.is w.ended-is
          (w.missed-missed.ensures ∙ ap (take (suc (more_of d))) w.split_at-in-Misses.ensures.back)
          w.with-missing.ensures.assigned w.with-missing.ensures.converted)
    ]) in
    let short = c.loop-come.invariant.short in
    let fewer = c.run_rows-come.ensures.left in
    record {
      short = omega (arith, short, fewer);
      low = c.run_rows-come.ensures.used;
      come = subst (λ (l : List Directive). HasCome l front c.run_rows-come.result m.missing (g.S.Store.kept c.run_rows-come.new.store))
          (sym ds.ensures.value) (c.run_rows-come.ensures.come m.missing here);
      room = (let before = c.loop-come.invariant.room in let first = c.pass_whole.ensures.room in
          let then = c.run_rows-come.ensures.room in omega (arith, before, first, then));
    }

pub returns-clause-run : goal.returns-clause-run
returns-clause-run g c = λ z ending.
    let ds = c.directives-directives in
    let come = c.loop-come.come in
    let front : List ℕ = c.split_at.result.0.now in
    let kept : Kept = g.S.Store.kept c.loop-come.store in
    let o : Outcome = c.done.result in
    let none : come.left ≡ 0 = (let e = c.loop-come-test.false in omega (arith, e)) in
    subst (λ (l : List Directive). RunWithin l c.args.limit (c.args.piece.now ++ z) ending (report_by o kept.values)) ds.ensures.value
    (come_done ds.result.now ds.ensures.proper c.args.limit c.min-most.result c.args.piece.now front come c.loop-come.missing kept o none
    c.loop-come.invariant.low c.split_at.ensures.front
    (let long = c.split_at.ensures.front_len in let least = c.min-most.ensures in omega (arith, long, least))
    c.loop-come.invariant.come c.done.ensures.status c.done.ensures.at c.done.ensures.used
    (subst (λ (l : List Directive). o.assigned ≡ items_assigned l - c.loop-come.missing.assigned) (sym ds.ensures.value)
    c.done.ensures.assigned)
    (subst (λ (l : List Directive). o.converted ≡ items_taken l - c.loop-come.missing.converted) (sym ds.ensures.value)
    c.done.ensures.converted)
    c.done.ensures.met z ending)

pub with-missing-requires-clause-assigned : goal.with-missing-requires-clause-assigned
with-missing-requires-clause-assigned g c =
    let ds = c.directives-directives in
    let come = c.loop-come.come in
    let fits = gone_fits ds.result.now c.split_at.result.0.now come c.index-directives-at.result c.loop-come.missing
    (g.S.Store.kept c.loop-come.store) c.missed-missed.result.now c.loop-come.invariant.short
    (c.missed-missed.ensures ∙ ap (take (suc (more_of c.index-directives-at.result))) c.split_at-in-Misses.ensures.back)
    c.loop-come.invariant.come in
    let all = fits.1 in
    omega (arith, all)

pub with-missing-requires-clause-converted : goal.with-missing-requires-clause-converted
with-missing-requires-clause-converted g c =
    let ds = c.directives-directives in
    let come = c.loop-come.come in
    let fits = gone_fits ds.result.now c.split_at.result.0.now come c.index-directives-at.result c.loop-come.missing
    (g.S.Store.kept c.loop-come.store) c.missed-missed.result.now c.loop-come.invariant.short
    (c.missed-missed.ensures ∙ ap (take (suc (more_of c.index-directives-at.result))) c.split_at-in-Misses.ensures.back)
    c.loop-come.invariant.come in
    let all = fits.2 in
    let short = ds.ensures.short in
    omega (arith, all, short)

pub overflow_sub-next : goal.overflow_sub-next
overflow_sub-next g c =
    let ds = c.directives-directives in
    let come = c.loop-come.come in
    let d : Directive = c.index-directives-at.result in
    let m = c.match-passage in
    let some = c.loop-come-test.true in
    elim m.branch [
      | in-Passes w ↦ (let one = w.ended-is in omega (arith, one, some))
      | in-Misses w ↦
          (let fits = gone_fits ds.result.now c.split_at.result.0.now come d c.loop-come.missing (g.S.Store.kept c.loop-come.store)
          w.missed-missed.result.now c.loop-come.invariant.short
          (w.missed-missed.ensures ∙ ap (take (suc (more_of d))) w.split_at-in-Misses.ensures.back) c.loop-come.invariant.come in
          let few = fits.0 in
          let one = w.ended-is in
          omega (arith, few, one))
    ]
