use Rattle.std.proofs.Common.{arith}
use Rattle.std.proofs.lemmas.Grind.{common_steps}
use Rattle.sf_base.proofs.StoreLemmas.EntryLemmas.{IsSound-none}
use Rattle.sf_base.proofs.stores.fixed_store.FixedStore.clear.Goals as goal

pub invariant_of-self : goal.invariant_of-self
invariant_of-self g c = rw (c.clear.ensures, c.clear-2.ensures) (IsSound-none g.row.SLOTS, omega arith)

pub returns : goal.returns
returns g c = grind (arith, common_steps)
