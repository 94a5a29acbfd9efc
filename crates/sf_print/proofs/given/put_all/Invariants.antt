use Rattle.std.proofs.Common.{◌≡◌, ◌+◌, length, take, map}
use Rattle.std.specs.Option.{option_map}
use Rattle.sf_base.specs.Data.{datum_of}
use Rattle.sf_print.specs.Given.{given_printed}
use Rattle.sf_print.specs.Staged.{held}
use Rattle.sf_print.proofs.Staging.{PutsAll}
use Rattle.sf_print.proofs.given.put_all.Given as goal

abbrev pub invariant-loop-unit : goal.invariant-loop-unit
invariant-loop-unit g l = record {
  sound : g.K.Sink.failures l.to ≡ g.K.Sink.failures l.fn.to;
  text : PutsAll (g.K.Sink.contents l.fn.to) l.fn.stage.written (held l.fn.stage) (g.K.Sink.contents l.to) l.stage.written (held l.stage)
      (given_printed (take l.unit-index l.units) (map (option_map datum_of) l.given));
  count : l.stage.written + l.stage.len ≡ l.fn.stage.written + l.fn.stage.len + length
      (given_printed (take l.unit-index l.units) (map (option_map datum_of) l.given));
}
