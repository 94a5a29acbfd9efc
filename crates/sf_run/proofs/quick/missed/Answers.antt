use Rattle.std.proofs.Common.{suc, take, ap, ◌∙◌, arith}
use Rattle.sf_run.proofs.Groups.{take_most}
use Rattle.sf_run.proofs.quick.missed.Goals as goal

pub returns : goal.returns
returns c =
    let least = c.min-count.ensures in
    c.split_at.ensures.front ∙ take_most c.min-count.result (suc c.more.result) c.args.directives.now (omega (arith, least))
    ∙ ap (λ k. take (suc k) c.args.directives.now) c.more.ensures
