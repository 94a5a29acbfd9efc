use Rattle.std.proofs.Common.{true, false}
use Rattle.sf_float.proofs.FewestLemmas.Quotients.{next_power}
use Rattle.sf_float.proofs.fewest.cut.fitted.Goals as goal

pub returns-then-lost-clause-same : goal.returns-then-lost-clause-same
returns-then-lost-clause-same c a d D q =
    rw c.if-lost.true (next_power a d c.args.first c.args.twice true D (rw c.if-lost.true at q))

pub returns-else-lost-clause-same : goal.returns-else-lost-clause-same
returns-else-lost-clause-same c a d D q =
    next_power a d c.args.first c.args.twice false D (rw c.if-lost.false at q)
