use Rattle.std.proofs.Common.{◌≡◌, ◌+◌, length, take}
use Rattle.std.specs.List.{flat_map}
use Rattle.sf_print.specs.texts.Runs.{piece_bytes}
use Rattle.sf_print.specs.Staged.{held}
use Rattle.sf_print.proofs.Staging.{PutsAll}
use Rattle.sf_print.proofs.piece.put_pieces.Given as goal

abbrev pub invariant-loop-piece : goal.invariant-loop-piece
invariant-loop-piece g l = record {
  sound : g.K.Sink.failures l.to ≡ g.K.Sink.failures l.fn.to;
  text : PutsAll (g.K.Sink.contents l.fn.to) l.fn.stage.written (held l.fn.stage) (g.K.Sink.contents l.to) l.stage.written (held l.stage)
      (flat_map piece_bytes (take l.piece-index l.pieces));
  count : l.stage.written + l.stage.len ≡ l.fn.stage.written + l.fn.stage.len + length (flat_map piece_bytes (take l.piece-index l.pieces));
}
