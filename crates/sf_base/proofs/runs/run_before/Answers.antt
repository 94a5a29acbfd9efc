use Rattle.std.proofs.Common.{◌==◌, length, refl, sym, arith}
use Rattle.sf_base.specs.Bytes.{is_other}
use Rattle.sf_base.proofs.Lanes.{ends_at}
use Rattle.sf_base.proofs.Sets.{run_to}
use Rattle.sf_base.proofs.runs.run_before.Goals as goal

pub returns-then-ends-ne0 : goal.returns-then-ends-ne0
returns-then-ends-ne0 c = sym (ends_at (λ b. b == c.args.end) (is_other c.args.end)
    (λ xs. refl) c.args.bytes.now 0 _ c.if-bytes-ge-LANES.true c.end_mask-ends.ensures c.if-ends-ne0.true)

pub returns-in-Some : goal.returns-in-Some
returns-in-Some c =
    let (none, at) = c.in-Some.ensures in
    run_to (is_other c.args.end) c.args.end c.args.bytes.now (λ k below. refl) c.type_inv.bytes c.in-Some.at
    (let high = none.high in omega (arith, high)) (λ k below. none.before k (omega arith) below) (λ _. at)

pub returns-in-None : goal.returns-in-None
returns-in-None c =
    let none = c.in-None.ensures in
    run_to (is_other c.args.end) c.args.end c.args.bytes.now (λ k below. refl) c.type_inv.bytes (length c.args.bytes.now) (omega arith)
    (λ k below. none k (omega arith) below) (λ below. absurd (omega (arith, below)))
