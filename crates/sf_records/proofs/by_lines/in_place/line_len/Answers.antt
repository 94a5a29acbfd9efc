use Rattle.std.proofs.Common.{◌∙◌, ℕ, Some, ap, arith}
use Rattle.sf_records.proofs.LinewiseLemmas.InPlace.{held_at, one_len}
use Rattle.sf_records.proofs.by_lines.in_place.line_len.Goals as goal

pub returns-then-len-piece-clause-held : goal.returns-then-len-piece-clause-held
returns-then-len-piece-clause-held c = held_at c.args.piece.now c.run_before-len.result c.run_before-len.ensures c.if-len-piece.true

pub returns-then-len-piece-clause-answers : goal.returns-then-len-piece-clause-answers
returns-then-len-piece-clause-answers c len held =
    ap (λ (n : ℕ). Some n) (c.run_before-len.ensures ∙ one_len c.args.piece.now len held)

pub returns-else-len-piece-clause-answers : goal.returns-else-len-piece-clause-answers
returns-else-len-piece-clause-answers c len held =
    let within = held.within in
    absurd (omega (arith, within, c.run_before-len.ensures, one_len c.args.piece.now len held, c.if-len-piece.false))
