use Rattle.std.proofs.Common.{◌≡◌, ◌∙◌, ◌+◌, ℕ, List, [], ◌∷◌, ◌++◌, Option, ap, arith, map, take}
use Rattle.std.proofs.lemmas.List.{take_more_set}
use Rattle.sf_base.specs.Data.{Datum, datum_at, datum_of_shown}
use Rattle.sf_base.specs.declared.values.Shown.{Shown}
use Rattle.sf_forms.proofs.MakerLemmas.RowSlots.{with_none, with_value}
use Rattle.sf_forms.proofs.makers.rows.shown_row.Goals.{in-None, in-Some}
use Rattle.sf_forms.proofs.makers.rows.shown_row.Goals as goal

pub loop-before-preserved : goal.loop-before-preserved
loop-before-preserved g c =
    let l = c.loop-before in
    let m = c.match-shown in
    let at : ℕ → Option Datum = λ slot. datum_at slot c.args.report.now.values in
    let few = l.invariant.few in
    let turn = c.loop-before-test.true in
    let long = l.auto.places in
    let room = c.requires in
    elim m.branch [
      | in-Some w ↦
          (let count = w.count-is in
          let more : take m.count m.places ≡ take l.count l.places ++ w.in-Some.shown ∷ [] =
          ap (λ n. take n m.places) count ∙ ap (take (l.count + 1)) w.places-is
          ∙ take_more_set l.places l.count w.in-Some.shown (omega (arith, few, turn, long, room)) in
          record {
            few = omega (arith, count, few);
            are = with_value datum_of_shown at l.before (take l.count l.places) (take m.count m.places) w.in-Some.shown
                l.invariant.are w.in-Some.ensures more;
          })
      | in-None w ↦
          (let count = w.count-is in
          record {
            few = omega (arith, count, few);
            are = ap (λ n. map datum_of_shown (take n m.places)) count
                ∙ ap (λ (ps : List Shown). map datum_of_shown (take l.count ps)) w.places-is
                ∙ with_none datum_of_shown at l.before (take l.count l.places) l.invariant.are w.in-None.ensures;
          })
    ]
