use Rattle.std.proofs.lemmas.Grind.{common_steps}
use Rattle.std.proofs.Common.{rules, arith, length-append}
use Rattle.sf_base.proofs.stores.heap_store.HeapStoreStore.push.Goals as goal

pub returns-then-is_err-clause-full : goal.returns-then-is_err-clause-full
returns-then-is_err-clause-full c = search rules

pub returns-then-self-len-clause-ok : goal.returns-then-self-len-clause-ok
returns-then-self-len-clause-ok c = grind (arith, common_steps)

pub returns-else-self-len-clause-ok : goal.returns-else-self-len-clause-ok
returns-else-self-len-clause-ok c = grind (arith, common_steps)

pub returns-else-self-len-clause-room : goal.returns-else-self-len-clause-room
returns-else-self-len-clause-room c = grind (arith, common_steps, length-append)
