use Rattle.std.proofs.Common.{arith}
use Rattle.sf_run.specs.Scanner.{kept_by, standing}
use Rattle.sf_run.proofs.Moves.{last_follows}
use Rattle.sf_run.proofs.Slots.{if_some, own_text}
use Rattle.sf_run.proofs.scanner.Scanner.close_last.Goals as goal

pub finish-finished-requires : goal.finish-finished-requires
finish-finished-requires g c = grind (arith, if_some, own_text)

pub returns-clause-same : goal.returns-clause-same
returns-clause-same g c =
    let s = c.args.self.now in
    last_follows (standing c.close.new.self) (standing s) c.args.directive.now _ c.requires.current c.requires.waits c.close.ensures.ends
    (λ q shows is. c.finish-finished.ensures.end q (kept_by s).opened shows is)
