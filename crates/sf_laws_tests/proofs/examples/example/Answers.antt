use Rattle.std.proofs.Common.{◌≡◌, inl, inr, ap}
use Rattle.sf_format.specs.Grammar.{Spells}
use Rattle.sf_report.specs.Limits.{RunTold}
use Rattle.sf_report.specs.Runs.{RunReport}
use Rattle.sf_run.specs.outcome.Ending.TheVariants.{End}
use Rattle.sf_laws_tests.proofs.examples.example.Goals as goal

pub returns : goal.returns
returns c = λ e told profile format input.
    let spelled : Spells c.args.profile c.args.format.now told.directives = rw (profile, format) told.spelled in
    let same : c.in-Ok.parsed ≡ told.directives =
    c.one_list.ensures.scan c.args.profile c.args.format.now c.in-Ok.parsed told.directives c.in-Ok.ensures.spelled spelled in
    let run : RunTold told.directives 2147483647 e.input End c.in-Ok-sscan.scanned.report =
    rw (same, input) at c.in-Ok-sscan.ensures.report in
    elim run [
      | inl w ↦ inl (told.reported.only c.in-Ok-sscan.scanned.report w)
      | inr w ↦ inr (ap (λ (r : RunReport). r.status) w.2.3)
    ]
