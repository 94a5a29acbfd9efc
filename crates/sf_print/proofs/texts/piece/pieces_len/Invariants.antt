use Rattle.std.proofs.Common.{◌≡◌, length, take, min}
use Rattle.std.specs.List.{flat_map}
use Rattle.sf_print.specs.texts.Runs.{piece_bytes}
use Rattle.sf_print.proofs.texts.piece.pieces_len.Given as goal

abbrev pub invariant-loop-piece : goal.invariant-loop-piece
invariant-loop-piece l = l.sum ≡ min l.most (length (flat_map piece_bytes (take l.piece-index l.pieces)))
