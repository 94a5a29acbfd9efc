use Rattle.std.proofs.Common.{refl, arith}
use Rattle.sf_base.specs.Bytes.{is_ink}
use Rattle.sf_format.specs.declared.directive.Shape.TheVariants as shapes
use Rattle.sf_item.proofs.Wholes.{no_run, run_item}
use Rattle.sf_item.proofs.whole.text_item.Goals.{else-count-gt0-via-then-count-gt0+else-count-piece, else-count-gt0-via-else-count-gt0}
use Rattle.sf_item.proofs.whole.text_item.Goals as goal

pub returns-then-count-piece : goal.returns-then-count-piece
returns-then-count-piece c lead width is =
    let cut = c.cut_at.ensures in
    run_item (shapes.Text lead) width c.args.piece.now c.cut_at.result.now cut.front (cut.room width is) (cut.whole width is) is_ink
    (λ f. refl)
    c.text_within-count.result c.text_within-count.ensures (λ f. refl) c.if-count-gt0.true c.if-count-piece.true

pub returns-else-count-gt0 : goal.returns-else-count-gt0
returns-else-count-gt0 c lead width is =
    let cut = c.cut_at.ensures in
    no_run (shapes.Text lead) width c.args.piece.now c.cut_at.result.now cut.front (cut.room width is) (cut.whole width is) is_ink
    (λ f. refl)
    c.text_within-count.result c.text_within-count.ensures refl (λ k h. tt)
    (λ some behind. elim c.else-count-gt0.branch [
      | else-count-gt0-via-then-count-gt0+else-count-piece w ↦ let past = w.if-count-piece.false in omega (arith, past, behind)
      | else-count-gt0-via-else-count-gt0 w ↦ let zero = w.if-count-gt0.false in omega (arith, zero, some)
    ])
