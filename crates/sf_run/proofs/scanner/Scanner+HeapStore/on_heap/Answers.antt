use Rattle.sf_run.proofs.Slots.{placed_from, apart_from}
use Rattle.sf_run.proofs.scanner.Scanner+HeapStore.on_heap.Goals as goal

pub start-requires-clause-placed : goal.start-requires-clause-placed
start-requires-clause-placed c = placed_from _ 32 _ c.directives.ensures.few c.directives.ensures.slots.each

pub start-requires-clause-apart : goal.start-requires-clause-apart
start-requires-clause-apart c = apart_from _ c.directives.ensures.slots.distinct
