use Rattle.std.proofs.Common.{arith}
use Rattle.sf_format.proofs.Layouts.{assigned_few}
use Rattle.sf_format.proofs.layout.items_of.Goals as goal

pub overflow_add-assigned : goal.overflow_add-assigned
overflow_add-assigned c =
    let few = assigned_few c.args.directives.now in
    let same = c.loop-directive.invariant.assigned in
    let most = c.requires.few in
    omega (arith, few, same, most)
