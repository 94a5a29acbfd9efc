use Rattle.std.proofs.Common.{ap}
use Rattle.sf_format.specs.declared.fault.FormatFault.{FormatFault}
use Rattle.sf_format.specs.Profiles.{in_one}
use Rattle.sf_laws_tests.proofs.formats.one_profile.Goals as goal

pub returns : goal.returns
returns c = λ bases.
    ap (λ (f : FormatFault). f.why)
    (c.in-Err.ensures.accepted (in_one c.in-Ok.second) (c.profiles.ensures.scan_one c.args.text.now c.in-Ok.second c.in-Ok.ensures.spelled
    bases))
