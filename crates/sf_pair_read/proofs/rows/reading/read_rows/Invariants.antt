use Rattle.std.proofs.Common.{◌≡◌, true, length}
use Rattle.std.specs.List.{AllByRecursion}
use Rattle.sf_read.specs.field.Rows.{present, slots_by}
use Rattle.sf_pair_read.specs.rows.Reading.{RowsInTurn}
use Rattle.sf_pair_read.proofs.RowLemmas.Back.{Going}
use Rattle.sf_pair_read.proofs.rows.reading.read_rows.Given as goal

-- the rows so far were read in turn; those that were written were read back, and the others are left
abbrev pub invariant-loop : goal.invariant-loop
invariant-loop g l = record {
  kept : length l.rows.items ≡ l.counter;
  going : Going g.S.Source.to_come g.S.Source.failures g.T.Row.kinds g.T.Row.optional g.T.Row.listed l.pair.print l.pair.scan l.limit l.most
      l.fn.from
      l.from l.rows.items;
  turns : RowsInTurn g.S.Source.to_come g.S.Source.reads g.S.Source.failures g.row.N g.T.Row.kinds
      (slots_by g.T.Row.given g.T.Row.listed) l.pair.scan l.limit l.fn.from l.rows.items l.from;
  listed : AllByRecursion (λ row. g.T.Row.listed row ≡ present (slots_by g.T.Row.given g.T.Row.listed row)) l.rows.items;
  unread : l.fn.from.at_end ≡ true → l.from.source ≡ l.fn.from.source;
  stays : l.fn.from.at_end ≡ true → l.from.at_end ≡ true;
}
