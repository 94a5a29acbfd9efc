use Rattle.std.proofs.lemmas.Grind.{common_steps}
use Rattle.std.proofs.Common.{arith}
use Rattle.sf_base.proofs.StoreLemmas.EntryLemmas.{IsSound-none}
use Rattle.sf_base.proofs.stores.heap_store.HeapStore.clear.Goals as goal

pub invariant_of-self : goal.invariant_of-self
invariant_of-self c = (
  rw (c.clear.ensures.items, c.truncate.ensures.bytes) (IsSound-none 32),
  record {
    held = rw c.truncate.ensures.bytes (omega arith);
    sure = omega (arith, c.self.invariant.1.sure, c.truncate.ensures.capacity);
    places = omega (arith, c.self.invariant.1.places, c.clear.ensures.capacity);
  },
)

pub returns : goal.returns
returns c = grind (arith, common_steps)
