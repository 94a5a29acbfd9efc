use Rattle.std.proofs.Common.{rules}
use Rattle.sf_item.proofs.whole.zeros_before.Goals as goal

pub loop-i-preserved : goal.loop-i-preserved
loop-i-preserved c = search rules
