use Rattle.sf_print.proofs.BlockLemmas.Waiting.{keeps_then}
use Rattle.sf_print.proofs.blocks.writing.write_some.Goals as goal

pub returns-in-Ok-clause-took : goal.returns-in-Ok-clause-took
returns-in-Ok-clause-took g c = keeps_then _ _ _ _ c.loop.invariant c.in-Ok.ensures.bytes
