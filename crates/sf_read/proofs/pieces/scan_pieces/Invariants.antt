use Rattle.std.proofs.Common.{◌≡◌, false, take}
use Rattle.std.specs.Prelude.{IsSome}
use Rattle.sf_format.specs.Widths.{width_sum}
use Rattle.sf_run.specs.Standing.{ran_out}
use Rattle.sf_run.specs.Scanner.{standing}
use Rattle.sf_read.specs.Pieces.{pieces_joined}
use Rattle.sf_read.proofs.InPieces.{Fed}
use Rattle.sf_read.proofs.pieces.scan_pieces.Given as goal

-- the pieces before were handed over
abbrev pub invariant-loop-piece : goal.invariant-loop-piece
invariant-loop-piece l =
    Fed l.format l.limit (standing l.scanner) (pieces_joined (take l.piece-index l.pieces))
    × (IsSome (width_sum l.format) → ran_out (standing l.scanner) ≡ false)
