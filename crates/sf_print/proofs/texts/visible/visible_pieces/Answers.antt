use Rattle.std.proofs.Common.{◌+◌, take, ap, ◌∙◌, arith}
use Rattle.std.proofs.lemmas.List.Folds.{length-flat_map-take}
use Rattle.std.specs.List.{flat_map}
use Rattle.sf_print.specs.declared.texts.piece.Piece.TheVariants as pieces
use Rattle.sf_print.specs.texts.Runs.{piece_bytes}
use Rattle.sf_print.proofs.TextLemmas.Blanks.{without-le, next_hidden, next_visible}
use Rattle.sf_print.proofs.texts.visible.visible_pieces.Goals as goal
use Rattle.sf_print.proofs.texts.visible.visible_pieces.Goals.{then-len-eq0, else-len-eq0}

pub overflow_add-len : goal.overflow_add-len
overflow_add-len c =
    omega (
      arith,
      c.requires,
      c.len.ensures,
      c.loop-piece.invariant,
      without-le (flat_map piece_bytes (take c.loop-piece.piece-index c.args.pieces.now)),
      length-flat_map-take piece_bytes c.args.pieces.now c.loop-piece.piece-index (pieces.Run 0 0) c.loop-piece-test.true,
    )

pub loop-piece-preserved : goal.loop-piece-preserved
loop-piece-preserved c =
    elim c.if-len-eq0.branch [
      | then-len-eq0 w ↦ w.len-is ∙ w.visible_piece-len.ensures ∙ next_hidden c.args.pieces.now c.loop-piece.piece-index c.loop-piece.len
          c.loop-piece-test.true c.loop-piece.invariant w.if-len-eq0.true
      | else-len-eq0 w ↦ w.len-is ∙ ap (λ k. c.loop-piece.len + k) w.len.ensures
          ∙ next_visible c.args.pieces.now c.loop-piece.piece-index c.loop-piece.len c.loop-piece-test.true c.loop-piece.invariant
          (let h = w.if-len-eq0.false in omega arith)
    ]
