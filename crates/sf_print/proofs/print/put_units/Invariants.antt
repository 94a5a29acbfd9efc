use Rattle.std.proofs.Common.{◌≡◌, ◌+◌, length, take, map}
use Rattle.sf_base.specs.Data.{datum_of}
use Rattle.sf_print.specs.Printed.{printed}
use Rattle.sf_print.specs.Staged.{held}
use Rattle.sf_print.proofs.Staging.{PutsAll}
use Rattle.sf_print.proofs.print.put_units.Given as goal

abbrev pub invariant-loop-unit : goal.invariant-loop-unit
invariant-loop-unit g l = record {
  sound : g.K.Sink.failures l.to ≡ g.K.Sink.failures l.fn.to;
  text : PutsAll (g.K.Sink.contents l.fn.to) l.fn.stage.written (held l.fn.stage) (g.K.Sink.contents l.to) l.stage.written (held l.stage)
      (printed (take l.unit-index l.units) (map datum_of l.values));
  count : l.stage.written + l.stage.len ≡ l.fn.stage.written + l.fn.stage.len + length
      (printed (take l.unit-index l.units) (map datum_of l.values));
}
