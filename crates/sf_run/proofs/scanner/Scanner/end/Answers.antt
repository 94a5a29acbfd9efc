use Rattle.sf_run.specs.Scanner.{standing}
use Rattle.sf_run.proofs.Waits.{none_is, run_out_gives, ended_gives_own, ended_closed}
use Rattle.sf_run.proofs.scanner.Scanner.end.Goals as goal

pub returns-then-is_none-clause-gives : goal.returns-then-is_none-clause-gives
returns-then-is_none-clause-gives g c ds m x h =
    run_out_gives ds m (standing c.args.self.now) (standing c.run_out.new.self) x c.args.ending h
    (none_is c.args.self.now.ended c.if-is_none.ensures)
    c.run_out.ensures.same c.run_out.ensures.used c.run_out.ensures.ended c.run_out.ensures.keeps.met

pub returns-else-is_none-clause-gives : goal.returns-else-is_none-clause-gives
returns-else-is_none-clause-gives g c ds m x h = ended_gives_own ds m (standing c.args.self.now) x c.args.ending h c.if-is_none.ensures

pub returns-else-is_none-clause-no_text : goal.returns-else-is_none-clause-no_text
returns-else-is_none-clause-no_text g c ds m x y h open' fits after =
    ended_closed ds m (standing c.args.self.now) x h c.if-is_none.ensures open' fits
