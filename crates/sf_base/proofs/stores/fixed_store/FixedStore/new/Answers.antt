use Rattle.std.proofs.Common.{arith}
use Rattle.sf_base.proofs.StoreLemmas.EntryLemmas.{IsSound-none}
use Rattle.sf_base.proofs.stores.fixed_store.FixedStore.new.Goals as goal

pub invariant_of-result : goal.invariant_of-result
invariant_of-result g c = rw (c.new.ensures, c.new-2.ensures) (IsSound-none g.row.SLOTS, omega arith)
