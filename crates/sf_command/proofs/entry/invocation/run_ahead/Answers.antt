use Rattle.std.proofs.Common.{rules, subst}
use Rattle.sf_command.specs.entry.Exits.{CanRun}
use Rattle.sf_command.proofs.entry.invocation.run_ahead.Goals as goal

pub run_order-requires : goal.run_order-requires
run_order-requires g c = let can = subst CanRun c.in-Ok.is c.requires in (search rules, can)
