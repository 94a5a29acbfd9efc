use Rattle.std.proofs.Common.{◌∙◌, ap, refl, sym}
use Rattle.sf_forms.proofs.JsonWriting.{string_is, whole_plain}
use Rattle.sf_forms.proofs.json.push_json_string.Goals.{then-plain_run-bytes+in_ok-extend_from_slice}
use Rattle.sf_forms.proofs.json.push_json_string.Goals.{else-plain_run-bytes+in_ok-push_characters}
use Rattle.sf_forms.proofs.json.push_json_string.Goals as goal

pub returns-clause-pushed : goal.returns-clause-pushed
returns-clause-pushed c =
    let bytes = c.args.bytes.now in
    elim c.if-plain_run-bytes.branch [
      | then-plain_run-bytes+in_ok-extend_from_slice w ↦
          string_is c.args.output.now.items _ c.if-plain_run-bytes.output.items _ bytes bytes c.in_ok-push.ensures.items
          (ap (λ v. v.items) w.output-is ∙ w.in_ok-extend_from_slice.ensures.items)
          (sym (whole_plain bytes (sym c.plain_run.ensures.count ∙ w.if-plain_run-bytes.true))) c.in_ok-push-2.ensures.items
      | else-plain_run-bytes+in_ok-push_characters w ↦
          string_is c.args.output.now.items _ c.if-plain_run-bytes.output.items _ bytes _ c.in_ok-push.ensures.items
          (ap (λ v. v.items) w.output-is ∙ w.in_ok-push_characters.ensures.pushed) refl c.in_ok-push-2.ensures.items
    ]
