use Rattle.std.proofs.Common.{◌≡◌, ◌∷◌, ◌∙◌, ℕ, List, Some, length, take, sym, ap, arith}
use Rattle.std.proofs.lemmas.List.{length-append, length-take-le}
use Rattle.sf_read.proofs.LineLemmas.Held.{no_line_end, one_front}
use Rattle.sf_read.proofs.line.line.held_line.Goals.{else-piece-via-else-piece, else-piece-via-then-piece+else-piece-limit}
use Rattle.sf_read.proofs.line.line.held_line.Goals as goal

pub returns-then-piece-limit-clause-answers : goal.returns-then-piece-limit-clause-answers
returns-then-piece-limit-clause-answers g c line rest is_line whole short =
    let held : List ℕ = c.args.from.now.held in
    let len : ℕ = c.piece_of-piece.result.len in
    let front : line ≡ take len held = one_front line rest _ _ is_line (rw c.held.ensures.held at c.piece_of-piece.ensures.line)
    (sym whole ∙ rw c.held.ensures.held at (c.piece_of-piece.ensures.ended c.if-piece.true)) in
    let size : len ≡ length line = omega (
      arith,
      ap length front,
      length-take-le len held
          (rw c.held.ensures.held at c.piece_of-piece.ensures.within),
    ) in
    ap (λ (n : ℕ). Some n) size

pub returns-else-piece-clause-answers : goal.returns-else-piece-clause-answers
returns-else-piece-clause-answers g c line rest is_line whole short =
    let held : List ℕ = c.args.from.now.held in
    let len : ℕ = c.piece_of-piece.result.len in
    elim c.else-piece.branch [
      | else-piece-via-else-piece w ↦
          absurd (no_line_end held line rest len whole (rw c.held.ensures.held at c.piece_of-piece.ensures.line)
          (rw c.held.ensures.held at (c.piece_of-piece.ensures.all w.if-piece.false)))
      | else-piece-via-then-piece+else-piece-limit w ↦
          let front : line ≡ take len held = one_front line rest _ _ is_line (rw c.held.ensures.held at c.piece_of-piece.ensures.line)
          (sym whole ∙ rw c.held.ensures.held at (c.piece_of-piece.ensures.ended w.if-piece.true)) in
          absurd (omega (
            arith,
            ap length front,
            length-take-le len held (rw c.held.ensures.held at c.piece_of-piece.ensures.within),
            short,
            w.if-piece-limit.false,
          ))
    ]

pub returns-then-is_at_end-clause-answers : goal.returns-then-is_at_end-clause-answers
returns-then-is_at_end-clause-answers g c line rest is_line whole short =
    absurd (omega (arith, ap length (sym whole ∙ c.is_at_end.ensures.held c.if-is_at_end.true), length-append line (10 ∷ rest)))
