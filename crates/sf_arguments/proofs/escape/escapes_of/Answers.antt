use Rattle.std.proofs.Common.{◌≡◌, ◌≤◌, ◌+◌, ◌++◌, ◌∷◌, [], Some, arith, drop, length, length-append, rules}
use Rattle.sf_arguments.specs.Escapes.{piece_of}
use Rattle.sf_arguments.proofs.Escaping.{front_of, one_more_piece}
use Rattle.sf_arguments.proofs.escape.escapes_of.Goals as goal

pub loop-at-preserved : goal.loop-at-preserved
loop-at-preserved c =
    let word = c.args.word.now in
    let read = c.loop-at.invariant.read in
    let piece = c.in-Some.piece in
    let within : c.loop-at.at + piece.size ≤ length word = search rules in
    let long : 1 ≤ piece.size = search rules in
    let front : piece_of (drop c.loop-at.at word) ≡ Some piece = front_of word c.loop-at.at c.piece_of.result piece
    c.piece_of.ensures.piece c.in-Some.is in
    record {
      within = within;
      few = omega arith;
      read = (
        read.0 ++ piece.byte ∷ [],
        one_more_piece read.0 word c.loop-at.at piece.byte piece.size read.1 front,
        omega (arith, read.2, length-append read.0 (piece.byte ∷ [])),
      );
    }
