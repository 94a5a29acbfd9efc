use Rattle.std.proofs.Common.{List, map, Err}
use Rattle.sf_base.specs.Data.{datum_of}
use Rattle.sf_format.specs.declared.unit.Unit.{Unit as PrintUnit}
use Rattle.sf_print.specs.Printed.{printed, WritesText}
use Rattle.sf_pair.proofs.Written.{long_refused, short_written}
use Rattle.sf_pair.proofs.pair.Pair.write.Goals as goal

pub returns-in-Err-clause-long : goal.returns-in-Err-clause-long
returns-in-Err-clause-long g c = λ fit long.
    let told = long_refused c.laws_below.ensures c.self.inside.print.now c.self.inside.scan.now c.args.self.now c.self.view_is
    c.self.invariant (map datum_of c.args.values.now) fit long _ c.in-Err.ensures.refused in
    ((let e = told.0 in cc), told.1)

pub returns-in-Err-clause-written : goal.returns-in-Err-clause-written
returns-in-Err-clause-written g c = λ fit short.
    short_written c.laws_below.ensures c.self.inside.print.now c.self.inside.scan.now c.args.self.now c.self.view_is c.self.invariant
    (map datum_of c.args.values.now) fit short
    (λ (us : List PrintUnit). WritesText (g.K.Sink.contents c.args.to.now) (g.K.Sink.contents c.fprint.new.to)
    (printed us (map datum_of c.args.values.now)) (Err c.in-Err.fault)) c.in-Err.ensures.written
