-- The bytes of a piece.
use Rattle.std.specs.Prelude.{ℕ, List, replicate}
use Rattle.sf_print.specs.declared.texts.piece.Piece.{Piece}
use Rattle.sf_print.specs.declared.texts.piece.Piece.TheVariants as pieces

abbrev pub piece_bytes : Piece → List ℕ
piece_bytes (pieces.Run byte count) = replicate count byte
piece_bytes (pieces.Bytes bytes) = bytes.now
