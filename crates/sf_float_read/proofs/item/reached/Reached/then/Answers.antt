use Rattle.std.proofs.Common.{◌∷◌, sym, subst}
use Rattle.sf_float_read.specs.item.Steps.{Completes, Goes}
use Rattle.sf_float_read.proofs.ItemLemmas.Places.{next_goes}
use Rattle.sf_float_read.proofs.item.reached.Reached.then.Goals as goal

pub returns-clause-goes : goal.returns-clause-goes
returns-clause-goes c = subst (Goes (λ t. Completes c.args.self (c.args.b ∷ t))) (sym c.place_after.ensures)
    (next_goes c.args.self c.args.b)
