use Rattle.std.proofs.Common.{◌∙◌, ap}
use Rattle.sf_forms.specs.Growing.{IsGrown}
use Rattle.sf_forms.proofs.Growing.{grown_by, grown_same, grown_then, in_err}
use Rattle.sf_forms.proofs.Joining.{first_written, next_written}
use Rattle.sf_forms.proofs.columns.push_columns.Goals.{then-before-gt0+in_ok-push, else-before-gt0}
use Rattle.sf_forms.proofs.columns.push_columns.Goals as goal

pub loop-before-preserved : goal.loop-before-preserved
loop-before-preserved g c =
    let f = g.C.Columns.text c.args.columns.now in
    elim c.if-before-gt0.branch [
      | then-before-gt0+in_ok-push w ↦
          next_written c.args.separator f c.loop-before.before c.args.output.now.items c.loop-before.output.items
          c.if-before-gt0.output.items _ w.if-before-gt0.true c.loop-before.invariant
          (ap (λ v. v.items) w.output-is ∙ w.in_ok-push.ensures.items) c.in_ok-push-2.ensures.pushed
      | else-before-gt0 w ↦
          first_written c.args.separator f c.loop-before.before c.args.output.now.items c.if-before-gt0.output.items
          _ w.if-before-gt0.false (ap (λ v. v.items) w.output-is ∙ c.loop-before.invariant) c.in_ok-push-2.ensures.pushed
    ]

pub returns-in_err-push-2-clause-refused : goal.returns-in_err-push-2-clause-refused
returns-in_err-push-2-clause-refused g c =
    let so_far : IsGrown c.args.output.now.items c.loop-before.output.items = grown_by _ c.loop-before.invariant in
    let separated : IsGrown c.args.output.now.items c.if-before-gt0.output.items = elim c.if-before-gt0.branch [
      | then-before-gt0+in_ok-push w ↦ grown_then so_far (grown_by _ (ap (λ v. v.items) w.output-is ∙ w.in_ok-push.ensures.items))
      | else-before-gt0 w ↦ grown_then so_far (grown_same (ap (λ v. v.items) w.output-is))
    ] in
    in_err c.from_residual-in_err-push-2.result (grown_then separated c.in_err-push-2.ensures.refused)
