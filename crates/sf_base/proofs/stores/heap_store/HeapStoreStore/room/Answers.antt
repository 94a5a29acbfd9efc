use Rattle.std.proofs.Common.{rules}
use Rattle.sf_base.proofs.stores.heap_store.HeapStoreStore.room.Goals as goal

pub returns : goal.returns
returns c = search rules
