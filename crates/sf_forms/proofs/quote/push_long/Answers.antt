use Rattle.std.proofs.Common.{◌∙◌, ap, refl, sym}
use Rattle.sf_forms.proofs.Quoting.{quoted_is, whole_front}
use Rattle.sf_forms.proofs.quote.push_long.Goals.{then-plain_run-bytes+in_ok-extend_from_slice, else-plain_run-bytes+in_ok-push_mixed}
use Rattle.sf_forms.proofs.quote.push_long.Goals as goal

pub returns-clause-pushed : goal.returns-clause-pushed
returns-clause-pushed c =
    let bytes = c.args.bytes.now in
    elim c.if-plain_run-bytes.branch [
      | then-plain_run-bytes+in_ok-extend_from_slice w ↦
          quoted_is c.args.output.now.items _ c.if-plain_run-bytes.output.items _ bytes bytes c.in_ok-push.ensures.items
          (ap (λ v. v.items) w.output-is ∙ w.in_ok-extend_from_slice.ensures.items)
          (sym (whole_front bytes (sym c.plain_run.ensures.count ∙ w.if-plain_run-bytes.true))) c.in_ok-push-2.ensures.items
      | else-plain_run-bytes+in_ok-push_mixed w ↦
          quoted_is c.args.output.now.items _ c.if-plain_run-bytes.output.items _ bytes _ c.in_ok-push.ensures.items
          (ap (λ v. v.items) w.output-is ∙ w.in_ok-push_mixed.ensures.pushed) refl c.in_ok-push-2.ensures.items
    ]
