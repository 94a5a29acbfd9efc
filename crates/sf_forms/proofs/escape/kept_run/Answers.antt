use Rattle.std.proofs.Common.{not, arith}
use Rattle.sf_base.proofs.Lanes.{ends_at, goes_on, not_not}
use Rattle.sf_forms.specs.Escapes.{stays}
use Rattle.sf_forms.proofs.escape.kept_run.Goals as goal

pub returns-then-odd-eq0-clause-kept : goal.returns-then-odd-eq0-clause-kept
returns-then-odd-eq0-clause-kept c =
    let q = stays c.args.form in
    let r = goes_on (λ b. not (q b)) q (not_not q) c.args.bytes.now c.args.at c.odd_in-odd.result c.requires
    c.odd_in-odd.ensures c.if-odd-eq0.true in
    omega (arith, r)

pub returns-clause-kept : goal.returns-clause-kept
returns-clause-kept c =
    let q = stays c.args.form in
    let r = ends_at (λ b. not (q b)) q (not_not q) c.args.bytes.now c.args.at c.odd_in-odd.result c.requires
    c.odd_in-odd.ensures c.if-odd-eq0.false in
    omega (arith, r)
