use Rattle.std.proofs.Common.{inl, inr, ap}
use Rattle.sf_format.specs.declared.fault.FormatFault.{FormatFault}
use Rattle.sf_laws_tests.proofs.formats.parsed_and_refused.Goals as goal

pub returns : goal.returns
returns c =
    elim c.in-Err.ensures.refused [
      | inl f ↦ absurd (c.not_both.ensures.scan c.args.profile c.args.text.now c.in-Ok._format c.in-Err.fault.at c.in-Err.fault.why
          c.in-Ok.ensures.spelled f)
      | inr m ↦ ap (λ (f : FormatFault). f.why) m.0
    ]
