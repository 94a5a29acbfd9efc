use Rattle.std.proofs.Common.{◌≡◌, ◌≤◌, ◌-◌, true, ℕ, List, Some}
use Rattle.sf_read.specs.source.Ahead.{input_of}
use Rattle.sf_records.specs.declared.by_lines.end.LineFault.{LineFault}
use Rattle.sf_records.specs.by_lines.Telling.{Stays}
use Rattle.sf_records.specs.by_lines.Turns.{work_of}
use Rattle.sf_records.proofs.LinewiseLemmas.Looping.{Going}
use Rattle.sf_records.proofs.by_lines.lines.run_lines.Given as goal

-- the lines so far; what is written and told of each stays the same, neither the source nor the sink has failed, and
-- after the end nothing was read
abbrev pub invariant-lines : goal.invariant-lines
invariant-lines g l = record {
  going : (telling : ℕ → List ℕ → LineFault → List ℕ) (t : List ℕ) → g.E.Teller.says l.fn.teller telling
      → input_of g.S.Source.to_come l.fn.from ≡ Some t
      → Going (work_of l.options l.formats.ignored.now l.formats.tried.now (g.M.Maker.work l.fn.maker) telling) g.S.Source.to_come t l.from
      (g.K.Sink.contents l.fn.to) (g.K.Sink.contents l.to) (g.E.Teller.failed l.fn.teller) (g.E.Teller.failed l.teller)
      (g.E.Teller.told l.fn.teller) (g.E.Teller.told l.teller) l.counts.written l.counts.failed l.number;
  text : g.M.Maker.work l.maker ≡ g.M.Maker.work l.fn.maker;
  teller : Stays g.E.Teller.says g.E.Teller.kept g.E.Teller.failed g.E.Teller.faults l.fn.teller l.teller;
  written : l.counts.written ≤ l.number;
  failed : l.counts.failed ≤ l.number;
  source : g.S.Source.failures l.from.source ≡ g.S.Source.failures l.fn.from.source;
  sink : g.K.Sink.failures l.to ≡ g.K.Sink.failures l.fn.to;
  unread : l.fn.from.at_end ≡ true → l.from.source ≡ l.fn.from.source;
  ended : l.fn.from.at_end ≡ true → l.from.at_end ≡ true;
}

abbrev pub decreases-lines : goal.decreases-lines
decreases-lines g l = 18446744073709551615 - l.number
