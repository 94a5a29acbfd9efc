use Rattle.std.proofs.Common.{◌≡◌, ◌∙◌, ℕ, List, ap, arith, length, refl, subst, take}
use Rattle.sf_base.specs.stores.Kept.{Kept}
use Rattle.sf_format.specs.declared.directive.Directive.{Directive}
use Rattle.sf_format.specs.Proper.{AreProper}
use Rattle.sf_run.specs.Counting.{HasCome, front_of, none_missing}
use Rattle.sf_run.specs.declared.quick.Place.{Place}
use Rattle.sf_run.proofs.AtOnce.{come_done, come_start, values_held}
use Rattle.sf_run.proofs.quick.run_all_rows.Goals as goal

-- before the first directive of the format
begun : (ds all : List Directive) (front : List ℕ) (kept : Kept) → ds ≡ all
    → HasCome ds front (record { left = length ds; used = 0 }) none_missing kept
    → HasCome all front (record { left = length ds; used = 0 }) none_missing kept
begun ds all front kept is come =
    subst (λ (l : List Directive). HasCome l front (record { left = length ds; used = 0 }) none_missing kept) is come

pub run_rows-place-requires-clause-come : goal.run_rows-place-requires-clause-come
run_rows-place-requires-clause-come g c =
    let ds = c.directives-directives in
    let kept = g.S.Store.kept c.args.store.now in (
      none_missing,
      begun ds.result.now c.args.format.now c.split_at.result.0.now kept ds.ensures.value
          (come_start ds.result.now c.split_at.result.0.now kept kept.room (length ds.result.now) c.requires.empty ds.ensures.few refl),
    )

pub returns-then-place-eq0-clause-run : goal.returns-then-place-eq0-clause-run
returns-then-place-eq0-clause-run g c = λ z ending.
    let ds = c.directives-directives in
    let old = g.S.Store.kept c.args.store.now in
    let front : List ℕ = c.split_at.result.0.now in
    let place : Place = c.run_rows-place.result in
    let come = c.run_rows-place.ensures.come none_missing (begun ds.result.now c.args.format.now front old ds.ensures.value
    (come_start ds.result.now front old old.room (length ds.result.now) c.requires.empty ds.ensures.few refl)) in
    let proper : AreProper c.args.format.now = subst (λ (l : List Directive). AreProper l) ds.ensures.value ds.ensures.proper in
    come_done c.args.format.now proper c.args.limit c.min-most.result c.args.piece.now front place none_missing
    (g.S.Store.kept c.run_rows-place.new.store) c.done.result c.if-place-eq0.true c.run_rows-place.ensures.used c.split_at.ensures.front
    (let long = c.split_at.ensures.front_len in let least = c.min-most.ensures in omega (arith, long, least))
    come c.done.ensures.status c.done.ensures.at c.done.ensures.used c.done.ensures.assigned c.done.ensures.converted
    c.done.ensures.met z ending

pub returns-then-place-eq0-clause-texts : goal.returns-then-place-eq0-clause-texts
returns-then-place-eq0-clause-texts g c =
    let ds = c.directives-directives in
    let old = g.S.Store.kept c.args.store.now in
    let front : List ℕ = c.split_at.result.0.now in
    let come = c.run_rows-place.ensures.come none_missing (begun ds.result.now c.args.format.now front old ds.ensures.value
    (come_start ds.result.now front old old.room (length ds.result.now) c.requires.empty ds.ensures.few refl)) in
    values_held (g.S.Store.kept c.run_rows-place.new.store) come.going.opened come.going.joined

pub returns-clause-come : goal.returns-clause-come
returns-clause-come g c =
    let ds = c.directives-directives in
    let old = g.S.Store.kept c.args.store.now in
    let front : List ℕ = c.split_at.result.0.now in
    let come = c.run_rows-place.ensures.come none_missing (begun ds.result.now c.args.format.now front old ds.ensures.value
    (come_start ds.result.now front old old.room (length ds.result.now) c.requires.empty ds.ensures.few refl)) in
    let is : front ≡ front_of c.args.limit c.args.piece.now =
    c.split_at.ensures.front ∙ ap (λ n. take n c.args.piece.now) c.min-most.ensures in
    subst (λ (y : List ℕ). HasCome c.args.format.now y c.run_rows-place.result none_missing
    (g.S.Store.kept c.run_rows-place.new.store)) is come
