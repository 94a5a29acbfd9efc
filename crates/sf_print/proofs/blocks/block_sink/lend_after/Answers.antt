use Rattle.sf_print.proofs.BlockLemmas.Waiting.{lent_after}
use Rattle.sf_print.proofs.blocks.block_sink.lend_after.Goals as goal

pub returns-clause-written : goal.returns-clause-written
returns-clause-written g c =
    lent_after (g.T.WritesInPlace.Writes c.args.writer.now c.write_in.new.self) c.args.block.now c.write_in.new.room c.args.end
    c.write_in.result c.requires c.write_in.ensures.within c.write_in.ensures.written
