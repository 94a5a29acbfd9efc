use Rattle.std.proofs.Common.{ℕ, take, ap, ◌∙◌}
use Rattle.sf_report.specs.Machine.{real_at}
use Rattle.sf_run.proofs.number.real_within.Goals as goal

pub returns-then-decimal-bytes : goal.returns-then-decimal-bytes
returns-then-decimal-bytes c =
    let d = c.in-Some.decimal in
    c.decimal_real.ensures (take d.bytes c.args.piece.now) c.in-Some.ensures.numeral.numeral
    ∙ ap (λ (n : ℕ). real_at c.args.kind (take n c.args.piece.now)) c.if-decimal-bytes.true
