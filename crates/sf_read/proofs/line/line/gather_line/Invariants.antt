use Rattle.std.proofs.Common.{◌≡◌, ◌≤◌, false, true}
use Rattle.std.specs.Prelude.{vec_capacity}
use Rattle.sf_read.proofs.LineLemmas.Gathering.{Gathering}
use Rattle.sf_read.proofs.LineLemmas.Using.{Using}
use Rattle.sf_read.proofs.line.line.gather_line.Given as goal

-- the blocks so far, and no line that is left; no read has failed, and after the end nothing was read
abbrev pub invariant-loop-block : goal.invariant-loop-block
invariant-loop-block g l = record {
  going : Gathering g.S.Source.to_come l.fn.from l.from l.limit l.line.items l.long l._block;
  short : l.all ≡ false → l.long ≡ false;
  using : Using l.all g.S.Source.to_come g.S.Source.reads g.row.N l.fn.from l.from l.limit l.line.items;
  unread : l.fn.from.at_end ≡ true → l.from.source ≡ l.fn.from.source;
  sound : g.S.Source.failures l.from.source ≡ g.S.Source.failures l.fn.from.source;
  capacity : vec_capacity l.fn.line ≤ vec_capacity l.line;
}
