use Rattle.std.proofs.Common.{refl}
use Rattle.sf_float_read.proofs.ItemLemmas.GoingOn.{begins}
use Rattle.sf_float_read.proofs.item.scan.FloatScan.step.Goals as goal

pub returns-in-Some-clause-taken : goal.returns-in-Some-clause-taken
returns-in-Some-clause-taken c forms f h =
    ((λ _. begins forms c.args.self.now.reached c.in-Some.next f c.args.b h c.in-Some.ensures.goes), (λ _. refl))
