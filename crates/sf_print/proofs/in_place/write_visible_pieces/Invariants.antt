use Rattle.std.proofs.Common.{◌≡◌, ◌≤◌, length, take}
use Rattle.std.specs.List.{flat_map}
use Rattle.sf_print.specs.texts.Runs.{piece_bytes}
use Rattle.sf_print.specs.texts.Visible.{without_blanks}
use Rattle.sf_print.proofs.in_place.write_visible_pieces.Given as goal

abbrev pub invariant-loop-piece : goal.invariant-loop-piece
invariant-loop-piece l = record {
  within : l.end ≤ length l.buf;
  written : take l.end l.buf ≡ without_blanks (flat_map piece_bytes (take l.piece-index l.pieces));
}
