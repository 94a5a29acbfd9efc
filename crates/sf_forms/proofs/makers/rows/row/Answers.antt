use Rattle.std.proofs.Common.{◌∙◌, ℕ, Option, Some, ap, arith, map}
use Rattle.arrayvec.specs.ArrayVec.{array_vec_len}
use Rattle.sf_base.specs.Data.{Datum, datum_at, datum_of}
use Rattle.sf_forms.proofs.MakerLemmas.RowSlots.{with_none, with_value}
use Rattle.sf_forms.proofs.makers.rows.row.Goals.{in-None, in-Some}
use Rattle.sf_forms.proofs.makers.rows.row.Goals as goal

pub loop-before-preserved : goal.loop-before-preserved
loop-before-preserved g c =
    let l = c.loop-before in
    let at : ℕ → Option Datum = λ slot. datum_at slot c.args.report.now.values in
    elim c.match-shown.branch [
      | in-Some w ↦ record {
        few = omega (arith, ap array_vec_len w.values-is, w.push.ensures.len, l.invariant.few);
        are = with_value datum_of at l.before l.values.items c.match-shown.values.items w.value.result l.invariant.are
            (ap Some w.value.ensures ∙ w.in-Some.ensures) (ap (λ v. v.items) w.values-is ∙ w.push.ensures.items);
      }
      | in-None w ↦ record {
        few = omega (arith, ap array_vec_len w.values-is, l.invariant.few);
        are = ap (λ v. map datum_of v.items) w.values-is ∙ with_none datum_of at l.before l.values.items l.invariant.are w.in-None.ensures;
      }
    ]
