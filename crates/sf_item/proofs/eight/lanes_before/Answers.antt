use Rattle.sf_item.proofs.EightDigits.{all_pass, some_pass}
use Rattle.sf_item.proofs.eight.lanes_before.Goals as goal

pub returns-then-mask-eq0 : goal.returns-then-mask-eq0
returns-then-mask-eq0 c p lanes long is = all_pass p lanes c.args.mask long is c.if-mask-eq0.true

pub returns-else-mask-eq0 : goal.returns-else-mask-eq0
returns-else-mask-eq0 c p lanes long is = some_pass p lanes c.args.mask long is c.if-mask-eq0.false
