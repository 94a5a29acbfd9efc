use Rattle.std.proofs.Common.{arith}
use Rattle.sf_run.proofs.quick.items_assigned.Goals as goal

pub overflow_add-count : goal.overflow_add-count
overflow_add-count c =
    let same = c.loop-directive.invariant in
    let most = c.requires in
    omega (arith, same, most)
