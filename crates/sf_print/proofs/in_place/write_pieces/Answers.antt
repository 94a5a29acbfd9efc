use Rattle.std.proofs.Common.{◌++◌, take, ap, sym, ◌∙◌, arith, true≢false}
use Rattle.std.proofs.lemmas.List.{take_all}
use Rattle.std.proofs.lemmas.List.Folds.{length-flat_map-take}
use Rattle.std.specs.List.{flat_map}
use Rattle.sf_print.specs.texts.Runs.{piece_bytes}
use Rattle.sf_print.specs.declared.texts.piece.Piece.TheVariants as pieces
use Rattle.sf_print.proofs.InPlace.{ends_at, more_written}
use Rattle.sf_print.proofs.in_place.write_pieces.Goals as goal

pub loop-piece-preserved : goal.loop-piece-preserved
loop-piece-preserved c =
    let l = c.loop-piece in
    record {
      within = c.in_ok-end.ensures.within;
      written = more_written piece_bytes c.args.pieces.now l.piece-index (pieces.Run 0 0) c.loop-piece-test.true _ _ _
          l.invariant.written c.in_ok-end.ensures.written;
    }

pub returns-in_err-end-clause-answers : goal.returns-in_err-end-clause-answers
returns-in_err-end-clause-answers c room =
    let l = c.loop-piece in
    let ps = c.args.pieces.now in
    absurd (true≢false (sym (c.in_err-end.ensures.answers (omega (
      arith,
      room,
      ends_at c.args.buf.now l.buf (flat_map piece_bytes (take l.piece-index ps)) c.args.at l.end c.requires
          l.invariant.within l.invariant.written,
      length-flat_map-take piece_bytes ps l.piece-index (pieces.Run 0 0) c.loop-piece-test.true,
    )))))

pub returns-clause-written : goal.returns-clause-written
returns-clause-written c =
    let l = c.loop-piece in
    let ps = c.args.pieces.now in
    let begun = take c.args.at c.args.buf.now in
    l.invariant.written ∙ ap (λ qs. begun ++ flat_map piece_bytes qs) (take_all l.piece-index ps (omega arith))
