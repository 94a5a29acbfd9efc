use Rattle.std.proofs.Common.{◌+◌, [], ◌∷◌, ◌++◌, List, ℕ, set, ap, ◌∙◌, arith, length-set, append_assoc}
use Rattle.std.proofs.lemmas.Grind.{take-set_at}
use Rattle.std.proofs.lemmas.List.{take_more_set}
use Rattle.sf_forms.proofs.escape.write_two.Goals as goal

pub returns-clause-written : goal.returns-clause-written
returns-clause-written c =
    let at = c.args.at in
    let buf = c.args.buf.now in
    let first = c.args.first in
    let second = c.args.second in
    take-set_at (set buf at first) (at + 1) (at + 2) second (omega arith) (omega (arith, length-set buf at first))
    ∙ ap (λ (t : List ℕ). t ++ second ∷ []) (take_more_set buf at first (omega arith)) ∙ append_assoc _ (first ∷ []) (second ∷ [])
