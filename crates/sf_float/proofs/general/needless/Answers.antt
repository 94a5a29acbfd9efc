use Rattle.sf_float.proofs.Shortening.{kept_all, kept_some}
use Rattle.sf_float.proofs.general.needless.Goals as goal

pub returns-then-all-clause-short : goal.returns-then-all-clause-short
returns-then-all-clause-short c = kept_all 10 c.args.all c.args.decimals c.args.n.now c.if-all.true

pub returns-clause-short : goal.returns-clause-short
returns-clause-short c =
    let z = c.zeros_at_end in
    kept_some 10 c.args.all c.args.decimals c.args.n.now z.result c.if-all.false z.ensures.few z.ensures.zeros z.ensures.next
