use Rattle.sf_forms.specs.Columns.{texts}
use Rattle.sf_forms.specs.makers.Names.{IsGood}
use Rattle.sf_forms.proofs.MakerLemmas.Naming.{good_more}
use Rattle.sf_forms.proofs.makers.names.check_each.Goals as goal

pub loop-before-preserved : goal.loop-before-preserved
loop-before-preserved c = good_more (IsGood c.args.tagged (texts c.args.names.now)) c.loop-before.before c.loop-before.invariant
    c.in_default.ensures
