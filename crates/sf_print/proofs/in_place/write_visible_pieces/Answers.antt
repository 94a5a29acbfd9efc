use Rattle.std.proofs.Common.{ℕ, ◌++◌, List, take, ap, sym, ◌∙◌, arith, true≢false, length, length-append, get_or, ◌≡◌, ◌≤◌, refl}
use Rattle.std.proofs.lemmas.List.{length-take-le}
use Rattle.sf_print.specs.texts.Runs.{piece_bytes}
use Rattle.sf_print.specs.declared.texts.piece.Piece.TheVariants as pieces
use Rattle.sf_print.proofs.TextLemmas.Blanks.{first_written, more_visible, visible_grows}
use Rattle.sf_print.proofs.in_place.write_visible_pieces.Goals as goal
use Rattle.sf_print.proofs.in_place.write_visible_pieces.Goals.{then-end-eq0+in_ok-end, else-end-eq0+in_ok-end-2}

pub returns-in_err-end-clause-answers : goal.returns-in_err-end-clause-answers
returns-in_err-end-clause-answers c room =
    let l = c.loop-piece in
    let ps = c.args.pieces.now in
    let before = take l.end l.buf in
    let none : length before ≡ 0 = omega (arith, length-take-le l.end l.buf l.invariant.within, c.if-end-eq0.true) in
    let first = first_written ps l.piece-index (piece_bytes c.visible_of.result) before c.loop-piece-test.true l.invariant.written none
    c.visible_of.ensures in
    absurd (true≢false (sym (c.in_err-end.ensures.answers (omega (
      arith,
      room,
      ap length first,
      visible_grows ps l.piece-index c.loop-piece-test.true,
      l.auto.buf,
    )))))

pub returns-in_err-end-2-clause-answers : goal.returns-in_err-end-2-clause-answers
returns-in_err-end-2-clause-answers c room =
    let l = c.loop-piece in
    let ps = c.args.pieces.now in
    let before = take l.end l.buf in
    let bytes = piece_bytes (get_or ps l.piece-index (pieces.Run 0 0)) in
    let some : length before ≡ l.end = length-take-le l.end l.buf l.invariant.within in
    let more = more_visible ps l.piece-index (before ++ bytes) before c.loop-piece-test.true l.invariant.written
    (omega (arith, some, c.if-end-eq0.false)) refl in
    absurd (true≢false (sym (c.in_err-end-2.ensures.answers (omega (
      arith,
      room,
      ap length more,
      length-append before bytes,
      some,
      visible_grows ps l.piece-index c.loop-piece-test.true,
      l.auto.buf,
    )))))

pub loop-piece-preserved : goal.loop-piece-preserved
loop-piece-preserved c =
    let l = c.loop-piece in
    let ps = c.args.pieces.now in
    let before = take l.end l.buf in
    let some : length before ≡ l.end = length-take-le l.end l.buf l.invariant.within in
    elim c.if-end-eq0.branch [
      | then-end-eq0+in_ok-end w ↦ (
          let here = w.in_ok-end.ensures in
          record {
            within = subst2 w.end-is w.buf-is here.within;
            written = first_written ps l.piece-index _ before c.loop-piece-test.true l.invariant.written
                (omega (arith, some, w.if-end-eq0.true)) (written_in w.end-is w.buf-is here.written ∙ w.visible_of.ensures);
          }
          )
      | else-end-eq0+in_ok-end-2 w ↦ (
          let here = w.in_ok-end-2.ensures in
          record {
            within = subst2 w.end-is w.buf-is here.within;
            written = more_visible ps l.piece-index _ before c.loop-piece-test.true l.invariant.written
                (omega (arith, some, w.if-end-eq0.false)) (written_in w.end-is w.buf-is here.written);
          }
          )
    ]
  where
    subst2 : {m n : ℕ} {a b : List ℕ} → m ≡ n → a ≡ b → n ≤ length b → m ≤ length a
    subst2 e f h = omega (arith, ap length f)

    written_in : {m n : ℕ} {a b t : List ℕ} → m ≡ n → a ≡ b → take n b ≡ t → take m a ≡ t
    written_in e f h = (λ i. take (e i) (f i)) ∙ h
