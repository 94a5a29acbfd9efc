use Rattle.std.proofs.Common.{refl, None, rules, subst}
use Rattle.sf_command.specs.entry.Exits.{CanRun, unread_of}
use Rattle.sf_command.proofs.entry.invocation.run_asked.Goals as goal

pub run_source-requires : goal.run_source-requires
run_source-requires g c = let can = subst CanRun c.in-Ok.is c.requires in record { limit = can.0; texts = can.1 }

pub returns-in-Ok : goal.returns-in-Ok
returns-in-Ok g c = rw c.in-Ok.is c.run_source.ensures

pub returns-in-Err : goal.returns-in-Err
returns-in-Err g c = rw c.in-Err.is (record {
  left = unread_of c.args.from.now;
  place = None;
  done = (refl, c.decline.ensures);
  placed = tt;
  back = refl;
  few = search rules;
})
