use Rattle.std.proofs.Common.{rules, arith}
use Rattle.sf_base.proofs.StoreLemmas.EntryLemmas.{IsSound-none}
use Rattle.sf_base.proofs.stores.heap_store.HeapStore.new.Goals as goal

pub invariant_of-result : goal.invariant_of-result
invariant_of-result c = (
  rw (c.in_ok-entries.ensures.items, c.in_ok-bytes.ensures.bytes) (IsSound-none 32),
  record {
    held = rw c.in_ok-bytes.ensures.bytes (omega arith);
    sure = omega (arith, c.in_ok-bytes.ensures.capacity);
    places = c.in_ok-entries.ensures.capacity;
  },
)

pub returns : goal.returns
returns c = search rules
