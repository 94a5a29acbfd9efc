use Rattle.std.proofs.Common.{ap, map}
use Rattle.sf_base.specs.Data.{datum_of}
use Rattle.sf_laws_tests.proofs.PairRuns.{rows}
use Rattle.sf_laws_tests.proofs.pairs.written_rows.Goals as goal

pub returns : goal.returns
returns c =
    let one = c.write_row.ensures c.if-not-write_row.false in
    let other = c.write_row-2.ensures c.if-not-write_row-2.false in
    rows c.args.pair.now.print c.args.pair.now.scan c.print-print.ensures.checked c.aligned_is_accepted.ensures c.joined_round_trip.ensures
    (map datum_of c.args.one.now) (map datum_of c.args.other.now) one.0 other.0 c.new-text.result.bytes c.write_row.new.to.bytes
    c.write_row-2.new.to.bytes (ap (λ s. s.bytes) c.new-text.ensures) one.1 other.1
