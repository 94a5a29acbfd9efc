use Rattle.std.proofs.Common.{◌≡◌, ◌-◌, ◌≤◌, ℕ, List, Some, true}
use Rattle.std.specs.Prelude.{unwrap_or}
use Rattle.sf_format.specs.Widths.{width_sum}
use Rattle.sf_run.specs.Memory.{capacity_of}
use Rattle.sf_read.specs.source.Ahead.{input_of}
use Rattle.sf_records.proofs.Looping.{Going}
use Rattle.sf_records.proofs.records.run_records.Given as goal

-- the records so far; what is made of each stays the same, the sink has not failed, the store has room for the width
-- sum, and after the end nothing was read
abbrev pub invariant-records : goal.invariant-records
invariant-records g l = record {
  going : (t : List ℕ) → input_of g.S.Source.to_come l.fn.from ≡ Some t
      → Going (g.M.Maker.work l.fn.maker 1 l.format) g.S.Source.to_come l.format l.limit t l.from (g.K.Sink.contents l.fn.to)
      (g.K.Sink.contents l.to) (g.S.Source.failures l.fn.from.source) (g.S.Source.failures l.from.source) l.records;
  same : g.M.Maker.work l.maker ≡ g.M.Maker.work l.fn.maker;
  roomy : unwrap_or (width_sum l.format) 0 ≤ capacity_of l.store;
  unread : l.fn.from.at_end ≡ true → l.from.source ≡ l.fn.from.source;
  ended : l.fn.from.at_end ≡ true → l.from.at_end ≡ true;
  most : l.records ≤ 2147483647;
  sound : g.K.Sink.failures l.to ≡ g.K.Sink.failures l.fn.to;
}

abbrev pub decreases-records : goal.decreases-records
decreases-records g l = 2147483647 - l.records
