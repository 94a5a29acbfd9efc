use Rattle.sf_format.specs.declared.directive.Profile.TheVariants.{Three}
use Rattle.sf_laws_tests.proofs.formats.third_profile.Goals as goal

pub returns : goal.returns
returns c =
    let two = c.profile_three.ensures.scan_three c.args.text.now c.in-Ok.second c.in-Ok.ensures.spelled in (
      c.one_list.ensures.scan Three c.args.text.now c.in-Ok-parse.third c.in-Ok.second c.in-Ok-parse.ensures.spelled two.0,
      two.1,
    )
