use Rattle.sf_run.specs.Scanner.{standing}
use Rattle.sf_run.proofs.Moves.{done_follows}
use Rattle.sf_run.proofs.scanner.Scanner.conclude.Goals as goal

pub returns-clause-same : goal.returns-clause-same
returns-clause-same g c z = done_follows (standing c.stop.new.self)
    (standing c.args.self.now) c.requires.current c.requires.waits c.stop.ensures z
