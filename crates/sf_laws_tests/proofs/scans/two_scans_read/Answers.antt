use Rattle.std.proofs.Common.{List, ◌∷◌, [], refl}
use Rattle.sf_read.specs.Laws.{MadeInTurn, ScanMade, blocks_in_turn, bytes_in_turn}
use Rattle.sf_laws_tests.proofs.scans.two_scans_read.Goals as goal

pub returns : goal.returns
returns g c =
    let scans : List ScanMade = record { directives = c.args.first.now; limit = 1000; report = c.in-Ok.before.report }
    ∷ record { directives = c.args.second.now; limit = 1000; report = c.in-Ok-fscan.after.report } ∷ [] in
    let made : MadeInTurn g.S.Source.to_come g.S.Source.reads g.row.N c.args.from.now scans c.fscan-2.new.from =
    (c.fscan.new.from, c.in-Ok.ensures.made, (c.fscan-2.new.from, c.in-Ok-fscan.ensures.made, refl)) in (
      bytes_in_turn g.S.Source.to_come g.S.Source.reads g.row.N c.args.from.now scans c.fscan-2.new.from made,
      blocks_in_turn g.S.Source.to_come g.S.Source.reads g.row.N c.args.from.now scans c.fscan-2.new.from made,
      c.reads_are_one_input.ensures c.args.from.now c.fscan-2.new.from scans made,
    )
