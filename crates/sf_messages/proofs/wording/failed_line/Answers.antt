use Rattle.std.proofs.Common.{◌∙◌, ◌++◌, ◌∷◌, [], ℕ, ap, codes}
use Rattle.std.specs.Fmt.{decimal}
use Rattle.sf_run.specs.Wording.{outcome_text}
use Rattle.sf_messages.proofs.wording.failed_line.Goals as goal

pub returns : goal.returns
returns c = c.outcome_line.ensures ∙ ap (λ (n : ℕ). codes "sf: record " ++ (decimal n ++ (codes ": " ++ outcome_text c.args.outcome)) ++ 10
    ∷ []) c.from.ensures
