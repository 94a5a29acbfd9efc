use Rattle.sf_format.specs.declared.directive.Profile.TheVariants.{Two}
use Rattle.sf_format.specs.Profiles.{in_two}
use Rattle.sf_laws_tests.proofs.formats.both_profiles.Goals as goal

pub returns : goal.returns
returns c = (
  c.one_list.ensures.scan Two c.args.text.now c.in-Ok-parse.second (in_two c.in-Ok.first) c.in-Ok-parse.ensures.spelled
      (c.profiles.ensures.scan_two c.args.text.now c.in-Ok.first c.in-Ok.ensures.spelled),
  c.profiles.ensures.scan_old c.args.text.now c.in-Ok.first c.in-Ok.ensures.spelled,
)
