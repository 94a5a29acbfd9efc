use Rattle.std.proofs.Common.{[], append-nil, ◌∙◌, arith}
use Rattle.std.proofs.lemmas.Grind.{common_steps}
use Rattle.sf_print.proofs.Staging.{failed}
use Rattle.sf_print.proofs.handing.flush.Goals as goal

pub returns-in-Err-clause-text : goal.returns-in-Err-clause-text
returns-in-Err-clause-text g c =
    let (front, rest, is, known, count, more) = c.in-Err.ensures.took in failed _ _ _ _ _ [] front rest (append-nil _ ∙ is) known count more

pub returns-in-Ok-clause-text : goal.returns-in-Ok-clause-text
returns-in-Ok-clause-text g c = grind (arith, common_steps)
