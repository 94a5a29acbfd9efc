use Rattle.sf_print.proofs.BlockLemmas.Waiting.{written_after}
use Rattle.sf_print.proofs.blocks.block_sink.write_after.Goals as goal

pub returns-clause-written : goal.returns-clause-written
returns-clause-written g c =
    written_after c.args.block.now c.write_in.new.room (g.T.TextInPlace.text c.args.text.now) c.args.end c.write_in.result c.requires
    c.write_in.ensures.within c.write_in.ensures.written
