use Rattle.std.proofs.Common.{◌++◌, ◌+◌, length, take, drop, get_or, ap, ◌∙◌, arith, length-append}
use Rattle.std.specs.List.{flat_map}
use Rattle.sf_print.specs.texts.Runs.{piece_bytes}
use Rattle.sf_print.specs.declared.texts.piece.Piece.TheVariants as pieces
use Rattle.std.proofs.lemmas.List.{take_all}
use Rattle.sf_print.proofs.TextLemmas.Joined.{flat_map_more}
use Rattle.sf_print.proofs.Staging.{Stops-middle, handed_on, flat_map_cut, length_more, PutsAll-same, PutsAll-then}
use Rattle.sf_print.proofs.piece.put_pieces.Goals as goal

pub put_piece-requires : goal.put_piece-requires
put_piece-requires g c =
    let l = c.loop-piece in
    let cut = ap length (flat_map_cut piece_bytes c.args.pieces.now l.piece-index (pieces.Run 0 0) c.loop-piece-test.true) in
    omega (
      arith,
      c.requires,
      l.invariant.count,
      cut
          ∙ length-append (flat_map piece_bytes (take l.piece-index c.args.pieces.now))
          (piece_bytes (get_or c.args.pieces.now l.piece-index (pieces.Run 0 0)) ++ flat_map piece_bytes
          (drop (l.piece-index + 1) c.args.pieces.now)),
      length-append (piece_bytes (get_or c.args.pieces.now l.piece-index (pieces.Run 0 0)))
          (flat_map piece_bytes (drop (l.piece-index + 1) c.args.pieces.now)),
    )

pub returns-in_err-put_piece-clause-text : goal.returns-in_err-put_piece-clause-text
returns-in_err-put_piece-clause-text g c =
    let l = c.loop-piece in
    handed_on _ _ c.args.stage.now c.put_piece.new.stage (flat_map piece_bytes c.args.pieces.now) c.from_residual.result _
    c.from_residual.ensures.1
    (Stops-middle _ _ _ _ _ _ _ _ (flat_map piece_bytes (take l.piece-index c.args.pieces.now))
    (piece_bytes (get_or c.args.pieces.now l.piece-index (pieces.Run 0 0)))
    (flat_map piece_bytes (drop (l.piece-index + 1) c.args.pieces.now))
    (flat_map piece_bytes c.args.pieces.now) l.invariant.text c.in_err-put_piece.ensures.text
    (flat_map_cut piece_bytes c.args.pieces.now l.piece-index (pieces.Run 0 0) c.loop-piece-test.true))

pub loop-piece-preserved : goal.loop-piece-preserved
loop-piece-preserved g c =
    let l = c.loop-piece in
    let first = pieces.Run 0 0 in
    record {
      sound = c.in_ok-put_piece.ensures.failures ∙ l.invariant.sound;
      text = PutsAll-same _ _ _ _ _ _ (flat_map piece_bytes (take l.piece-index c.args.pieces.now) ++ piece_bytes
          (get_or c.args.pieces.now l.piece-index first)) _
          (flat_map_more piece_bytes c.args.pieces.now l.piece-index first c.loop-piece-test.true)
          (PutsAll-then _ _ _ _ _ _ _ _ _ _ _ l.invariant.text c.in_ok-put_piece.ensures.text);
      count = omega (
        arith,
        l.invariant.count,
        c.in_ok-put_piece.ensures.count,
        length_more piece_bytes c.args.pieces.now l.piece-index first c.loop-piece-test.true,
      );
    }

pub returns-clause-text : goal.returns-clause-text
returns-clause-text g c =
    PutsAll-same _ _ _ _ _ _ _ _ (ap (flat_map piece_bytes) (take_all c.loop-piece.piece-index c.args.pieces.now (omega arith)))
    c.loop-piece.invariant.text
