use Rattle.std.proofs.Common.{rules, ◌≡◌, ◌+◌, ◌-◌, ◌++◌, length, take, replicate, ap, ◌∙◌, arith}
use Rattle.std.proofs.lemmas.Slice.{take-put_mid}
use Rattle.sf_print.proofs.stage.Stage.hold_run.Goals as goal

pub returns-clause-held : goal.returns-clause-held
returns-clause-held c =
    let s = c.args.self.now in
    let e : c.fill.new.self ≡ replicate c.args.count c.args.byte = search rules in
    take-put_mid s.len (s.len + c.args.count - s.len) s.buf c.fill.new.self (s.len + c.args.count) (omega (arith, ap length e))
    (omega arith) ∙ ap (λ t. take s.len s.buf ++ t) e
