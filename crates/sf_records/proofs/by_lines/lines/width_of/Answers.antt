use Rattle.std.proofs.Common.{sym, arith}
use Rattle.sf_records.proofs.LinewiseLemmas.Rooms.{no_width}
use Rattle.sf_records.proofs.by_lines.lines.width_of.Goals as goal

pub returns-then-destinations-eq0-clause-width : goal.returns-then-destinations-eq0-clause-width
returns-then-destinations-eq0-clause-width c = sym (no_width c.args.format.now
    (omega (arith, c.destinations.ensures.count, c.if-destinations-eq0.true)))
