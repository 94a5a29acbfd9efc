use Rattle.std.proofs.Common.{◌≡◌, map, take}
use Rattle.std.specs.List.{AllByRecursion}
use Rattle.std.specs.Io.KnownBytes.{Appends}
use Rattle.sf_pair.specs.Fits.{Fit}
use Rattle.sf_pair.specs.Joined.{joined}
use Rattle.sf_pair_read.proofs.rows.writing.write_rows.Given as goal

-- the rows so far fit and are written
abbrev pub invariant-loop-before : goal.invariant-loop-before
invariant-loop-before g l = record {
  written : Appends (g.K.Sink.contents l.fn.to) (g.K.Sink.contents l.to)
      (joined l.pair.print (map g.T.Row.listed (take l.before l.rows)));
  fit : AllByRecursion (Fit l.pair.print l.pair.scan) (map g.T.Row.listed (take l.before l.rows));
  sound : g.K.Sink.failures l.to ≡ g.K.Sink.failures l.fn.to;
}
