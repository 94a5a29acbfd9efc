use Rattle.std.proofs.Common.{◌≡◌, List, ℕ, subst}
use Rattle.sf_format.specs.Faults.{IsRefused}
use Rattle.sf_format.specs.declared.fault.FormatFault.{FormatFault}
use Rattle.sf_arguments.specs.answer.Parts.{IsScanText}
use Rattle.sf_arguments.proofs.answer.answer.scan_text.Goals as goal

pub returns-in-Err-2-clause-no_format : goal.returns-in-Err-2-clause-no_format
returns-in-Err-2-clause-no_format c fault is =
    let same : c.in-Err.fault ≡ fault = cc in
    let refused = subst (λ (t : List ℕ). IsRefused c.args.profile t c.in-Err.fault) c.deref.ensures.value c.in-Err.ensures.refused in (
      c.in-Ok.text.items,
      subst (λ us. IsScanText c.args.width us c.in-Ok.text.items) c.directives.ensures.value c.in-Ok.ensures,
      subst (λ (f : FormatFault). IsRefused c.args.profile c.in-Ok.text.items f) same refused,
    )
