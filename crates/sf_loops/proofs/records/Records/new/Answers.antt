use Rattle.std.proofs.Common.{◌≡◌, [], false}
use Rattle.sf_read.specs.source.Ahead.{Ahead}
use Rattle.sf_loops.specs.Loops.{Loop}
use Rattle.sf_loops.proofs.Given.{by_ahead}
use Rattle.sf_loops.proofs.records.Records.new.Goals as goal

pub returns-clause-held : goal.returns-clause-held
returns-clause-held g c =
    by_ahead (λ (a : Ahead g.row.S.Denot). a.held ≡ []) (λ (l : Loop g.row.S.Denot). l.ahead) c.new.result c.over.result c.new.ensures.held
    c.over.ensures.ahead

pub returns-clause-source : goal.returns-clause-source
returns-clause-source g c =
    by_ahead (λ (a : Ahead g.row.S.Denot). a.source ≡ c.args.source) (λ (l : Loop g.row.S.Denot). l.ahead) c.new.result c.over.result
    c.new.ensures.source c.over.ensures.ahead

pub returns-clause-fresh : goal.returns-clause-fresh
returns-clause-fresh g c =
    by_ahead (λ (a : Ahead g.row.S.Denot). a.at_end ≡ false) (λ (l : Loop g.row.S.Denot). l.ahead) c.new.result c.over.result
    c.new.ensures.fresh c.over.ensures.ahead
