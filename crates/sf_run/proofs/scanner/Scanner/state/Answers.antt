use Rattle.std.proofs.Common.{refl, ap}
use Rattle.std.specs.Prelude.{is_some}
use Rattle.sf_run.specs.Scanner.{standing}
use Rattle.sf_run.proofs.Waits.{waits_open, ended_closed, has_come}
use Rattle.sf_run.proofs.scanner.Scanner.state.Goals as goal

pub returns-in-None-clause-waits : goal.returns-in-None-clause-waits
returns-in-None-clause-waits g c ds m x h = (λ _. waits_open ds m (standing c.args.self.now) x h c.in-None.is, λ _. refl)

pub returns-in-Some-clause-waits : goal.returns-in-Some-clause-waits
returns-in-Some-clause-waits g c ds m x h = (
  λ e. absurd cc,
  λ o. absurd
      (ended_closed ds m (standing c.args.self.now) x h (ap is_some c.in-Some.is) o.0 o.1),
)

pub returns-in-None-clause-comes : goal.returns-in-None-clause-comes
returns-in-None-clause-comes g c ds m x h _ = has_come ds m (standing c.args.self.now) x h c.in-None.is
